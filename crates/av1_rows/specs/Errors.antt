-- The error for each error of reading.
use Rattle.av1_streams.specs.declared.read.ReadError.{ReadError}
use Rattle.av1_streams.specs.declared.read.ReadError.TheVariants as reading
use Rattle.av1_rows.specs.declared.error.RowsError.{RowsError}
use Rattle.av1_rows.specs.declared.error.RowsError.TheVariants as variants

abbrev pub read_error : ReadError → RowsError
read_error reading.ReadFault = variants.ReadFault
read_error reading.TooLong = variants.TooLong
read_error reading.Memory = variants.Memory
