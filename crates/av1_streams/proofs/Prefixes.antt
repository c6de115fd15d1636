-- Prefixes that writes append, one after the other.
use Rattle.std.proofs.Common.{◌-◌, ◌≡◌, ℕ, ◌+◌, List, [], ◌++◌, Option, length, take, drop, sym, ap, ◌∙◌, append_assoc, append-nil, take-append-drop}
use Rattle.std.proofs.lemmas.List.{take_rest}
use lib.Seq.{take-add}
use Rattle.std.specs.Io.KnownBytes.{Appends}
use Rattle.std.proofs.KnownBytes.{Appends-trans}
use Rattle.av1_streams.specs.Streams.{AppendsPrefix}

-- after the first n bytes, the next m of what follows them
pub Appends-more : (a b c : Option (List ℕ)) (bytes : List ℕ) (n m : ℕ) → Appends a b (take n bytes) →
    Appends b c (take m (take (length bytes - n) (drop n bytes))) → Appends a c (take (n + m) bytes)
Appends-more a b c bytes n m first next = rw take-add (Appends-trans a b c _ _ first (rw take_rest at next))

-- the first n bytes are a prefix
pub AppendsPrefix-take : (a b : Option (List ℕ)) (bytes : List ℕ) (n : ℕ) → Appends a b (take n bytes) → AppendsPrefix a b bytes
AppendsPrefix-take a b bytes n first = (take n bytes, drop n bytes, take-append-drop n bytes, first)

-- all of it is a prefix too
pub AppendsPrefix-all : (a b : Option (List ℕ)) (bytes : List ℕ) → Appends a b bytes → AppendsPrefix a b bytes
AppendsPrefix-all a b bytes done = (bytes, [], append-nil bytes, done)

-- a prefix of the first part of the whole
pub AppendsPrefix-first : (a b : Option (List ℕ)) (part after whole : List ℕ) → part ++ after ≡ whole → AppendsPrefix a b part → AppendsPrefix a b whole
AppendsPrefix-first a b part after whole parts (front, rest, split, appended) =
    (front, rest ++ after, sym (append_assoc front rest after) ∙ ap (λ l. l ++ after) split ∙ parts, appended)

-- all that stands before a part of the whole, and a prefix of that part
pub AppendsPrefix-after : (a b c : Option (List ℕ)) (before part after whole : List ℕ) → before ++ (part ++ after) ≡ whole → Appends a b before →
    AppendsPrefix b c part → AppendsPrefix a c whole
AppendsPrefix-after a b c before part after whole parts first (front, rest, split, appended) = (
  before ++ front,
  rest ++ after,
  append_assoc before front (rest ++ after) ∙ ap (λ l. before ++ l) (sym (append_assoc front rest after) ∙ ap (λ l. l ++ after) split) ∙ parts,
  Appends-trans a b c before front first appended,
)
