-- A number among the arguments after a program's name.
use Rattle.std.specs.Prelude.{ℕ, ◌^◌, Bool, ◌&&◌, nat_lt, nat_le, if◌then◌else◌, List, length, Option, Some, None}
use Rattle.std.specs.Str.{all_ascii_digits}
use Rattle.std.specs.Str.Parse.{digits_value}

-- the argument, given by its bytes, is 1 to 10 decimal digits, which write a number of at most 32 bits
abbrev pub is_number : List ℕ → Bool
is_number word = nat_lt 0 (length word) && nat_le (length word) 10 && all_ascii_digits word
    && nat_lt (digits_value 10 word) (2 ^ 32)

-- the number that an argument is, if it is one
unfoldable pub number_of : List ℕ → Option ℕ
number_of word = if is_number word then Some (digits_value 10 word) else None
