-- What an answer says, and when it is the wanted one.
use Rattle.std.specs.Prelude.{◌≡◌, ℕ, ◌-◌, ◌^◌, List, ◌∷◌, length, min}
use Rattle.av1_replay.specs.Digest.{crc32}
use Rattle.av1_replay.specs.Fields.{four_before, short_part_before}
use Rattle.av1_replay.specs.declared.answer.Answer.{Answer}
use Rattle.av1_replay.specs.declared.answer.Wanted.{Wanted}

-- the answer of a call with this status and text that wrote these bytes
pub record Tells (answer : Answer) (status : ℕ) (text bytes : List ℕ) : Type 0 where
  pub has_status : answer.status ≡ status
  pub has_text : answer.text.items ≡ text
  pub has_count : answer.count ≡ min (length bytes) (2 ^ 32 - 1)
  pub has_digest : answer.sum ≡ crc32 bytes

-- the status, the text, the number of bytes and their digest are all the same
pub record Agrees (wanted : Wanted) (came : Answer) : Type 0 where
  pub same_status : wanted.status ≡ came.status
  pub same_text : wanted.text.now ≡ came.text.items
  pub same_count : wanted.count ≡ came.count
  pub same_sum : wanted.sum ≡ came.sum

-- the bytes of a wanted answer, before others: its status, its text, the number of bytes and their digest
abbrev pub wanted_before : Wanted → List ℕ → List ℕ
wanted_before wanted others =
    wanted.status ∷ short_part_before wanted.text.now (four_before wanted.count (four_before wanted.sum others))
