-- What is written of items, one behind the other.
use Rattle.std.proofs.Common.{◌≡◌, ℕ, ◌+◌, ◌<◌, ◌≤◌, Option, List, [], ◌∷◌, ◌++◌, length, take, drop, get_or, sym, ap, subst, ◌∙◌, append-nil, append_assoc}
use Rattle.std.proofs.Common.{take-append-drop}
use Rattle.std.specs.List.{flat_map}
use Rattle.std.specs.Io.KnownBytes.{Appends}
use Rattle.std.proofs.KnownBytes.{Appends-trans}
use Rattle.std.proofs.lemmas.Grind.{flat_map-append}
use Rattle.std.proofs.lemmas.List.{take_all, take_more}
use Rattle.av1_streams.specs.Streams.{AppendsPrefix}
use Rattle.av1_streams.proofs.Prefixes.{AppendsPrefix-after}

module _ {A : Type 0} (f : A → List ℕ) (items : List A) where
  -- the items before one, and that one
  items_more : (i : ℕ) (d : A) → i < length items → flat_map f (take (i + 1) items) ≡ flat_map f (take i items) ++ f (get_or items i d)
  items_more i d h =
      ap (flat_map f) (take_more items i d h) ∙ flat_map-append f (take i items) (get_or items i d ∷ [])
      ∙ ap (λ l. flat_map f (take i items) ++ l) (append-nil (f (get_or items i d)))

  -- one item more
  pub Appends-item : (i : ℕ) (d : A) (a b c : Option (List ℕ)) → i < length items → Appends a b (flat_map f (take i items)) →
      Appends b c (f (get_or items i d)) → Appends a c (flat_map f (take (i + 1) items))
  Appends-item i d a b c h before next =
      subst (Appends a c) (sym (items_more i d h)) (Appends-trans a b c (flat_map f (take i items)) (f (get_or items i d)) before next)

  -- a prefix of the next item
  pub AppendsPrefix-item : (i : ℕ) (d : A) (a b c : Option (List ℕ)) → i < length items → Appends a b (flat_map f (take i items)) →
      AppendsPrefix b c (f (get_or items i d)) → AppendsPrefix a c (flat_map f items)
  AppendsPrefix-item i d a b c h before next =
      let rest = flat_map f (drop (i + 1) items) in
      let whole : flat_map f (take i items) ++ (f (get_or items i d) ++ rest) ≡ flat_map f items =
      sym (append_assoc (flat_map f (take i items)) (f (get_or items i d)) rest) ∙ ap (λ l. l ++ rest) (sym (items_more i d h))
      ∙ sym (flat_map-append f (take (i + 1) items) (drop (i + 1) items)) ∙ ap (flat_map f) (take-append-drop (i + 1) items) in
      AppendsPrefix-after a b c (flat_map f (take i items)) (f (get_or items i d)) rest _ whole before next

  -- all items
  pub Appends-items : (i : ℕ) (a b : Option (List ℕ)) → length items ≤ i → Appends a b (flat_map f (take i items)) → Appends a b (flat_map f items)
  Appends-items i a b h all = subst (λ (l : List A). Appends a b (flat_map f l)) (take_all i items h) all
