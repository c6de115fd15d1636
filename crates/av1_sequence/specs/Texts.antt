-- How far bytes agree with a sequence of frames. The bytes are compared with the texts of lists of fields. Nothing here
-- reads.
use Rattle.std.specs.Prelude.{◌≡◌, ◌⊎◌, zero, suc, ℕ, ◌<◌, ◌^◌, Bool, List, [], ◌∷◌, ◌++◌, length, Ok, Err, ⊤}
use Rattle.av1_plan.specs.Parts.{length_text, part_text, IsProperText, IsLongestText}
use Rattle.av1_plan.specs.Spelling.{IsProper, Spells, text}
use Rattle.av1_streams.specs.Streams.{AreBytes}
use Rattle.av1_sequence.specs.declared.head.EntryHead.{EntryHead}
use Rattle.av1_sequence.specs.declared.head.EntryHead.TheVariants as heads
use Rattle.av1_sequence.specs.declared.head.FrameHead.{FrameHead}
use Rattle.av1_sequence.specs.Grammar.{EntryValue, FileValue, FrontValue, again, coded, entry_head, front, read_file}

-- the head of an entry
abbrev pub head_of : EntryValue → EntryHead
head_of (coded shown f) = heads.Coded shown f.head
head_of (again slot refresh) = heads.Again slot refresh

-- the text after the head: the length of the part, and the part of a frame
abbrev pub behind_text : EntryValue → List ℕ
behind_text (coded shown f) = part_text f.part
behind_text (again slot refresh) = []

-- the length of the part fits four bytes
abbrev pub HasLength : EntryValue → Type 0
HasLength (coded shown f) = length f.part < 2 ^ 32
HasLength (again slot refresh) = ⊤

-- the text of an entry in a sequence with this version of plans: the fields of its head, and the rest of the entry
pub record IsEntryText (version : ℕ) (e : EntryValue) (bytes : List ℕ) : Type 0 where
  pub values : List ℕ
  pub spells : Spells (entry_head version) values (head_of e)
  pub short : HasLength e
  pub whole : bytes ≡ text (entry_head version) values ++ behind_text e

-- the texts of entries, one after the other
abbrev pub AreEntryTexts : (version : ℕ) → List EntryValue → List ℕ → Type 0
AreEntryTexts version [] bytes = bytes ≡ []
AreEntryTexts version (e ∷ entries) bytes =
    (one : List ℕ) × IsEntryText version e one ×
    ((rest : List ℕ) × AreEntryTexts version entries rest × (bytes ≡ one ++ rest))

-- The text of the first fields of an entry that is not whole. These are fields of its head, or its head and the length
-- of its part.
abbrev pub IsBegun : (version : ℕ) → List ℕ → Type 0
IsBegun version run =
    ((values : List ℕ) × IsProper (entry_head version) values × (run ≡ text (entry_head version) values))
    ⊎ ((shown : Bool) × ((h : FrameHead) ×
    ((values : List ℕ) × Spells (entry_head version) values (heads.Coded shown h) ×
    ((len : ℕ) × (len < 2 ^ 32) × (run ≡ text (entry_head version) values ++ length_text len)))))

-- The text of the first fields of n entries. Either there is no field, or fields of an entry that is not whole, or a
-- whole entry and then the first fields of the other entries.
abbrev pub IsRun : (version n : ℕ) → List ℕ → Type 0
IsRun version zero run = run ≡ []
IsRun version (suc n) run =
    IsBegun version run ⊎ ((e : EntryValue) ×
    ((one : List ℕ) × IsEntryText version e one × ((more : List ℕ) × IsRun version n more × (run ≡ one ++ more))))

-- the text of the first fields of a sequence: fields of its front, or all of these and the first fields of its entries
abbrev pub IsSequenceRun : List ℕ → Type 0
IsSequenceRun = IsProperText front (λ f. IsRun f.frames.version f.count)

-- the bytes are the text of this sequence: all fields before the entries, and then its entries
pub record IsFileText (bytes : List ℕ) (f : FileValue) : Type 0 where
  pub front_value : FrontValue
  pub values : List ℕ
  pub spells : Spells front values front_value
  pub same : f.frames ≡ front_value.frames
  pub count : length f.entries ≡ front_value.count
  pub texts : List ℕ
  pub entries : AreEntryTexts f.frames.version f.entries texts
  pub whole : bytes ≡ text front values ++ texts

-- Bytes that are not a valid sequence are rejected at the end of the longest proper list of fields at their front.
abbrev pub RefusedAtLongest : Type 0
RefusedAtLongest = (bytes : List ℕ) (at : ℕ) → AreBytes bytes → read_file bytes ≡ Err at →
    IsLongestText IsSequenceRun bytes at

-- Bytes are a sequence exactly if they are its text.
abbrev pub FoundAtText : Type 0
FoundAtText = (bytes : List ℕ) (f : FileValue) → AreBytes bytes → (read_file bytes ≡ Ok f → IsFileText bytes f) ×
    (IsFileText bytes f → read_file bytes ≡ Ok f)
