-- Rows, one after the other: which were replayed, what is left of the bytes, and the counts.
use Rattle.std.proofs.Common.{◌≡◌, ◌↔◌, ℕ, List, [], ◌∷◌, ◌++◌, Option, Some, None, Bool, true, false, refl, sym, ap, subst, ◌∙◌, append_assoc}
use Rattle.std.specs.Prelude.{IsNone, IsTrue, fold, length, if◌then◌else◌}
use Rattle.std.specs.Int.{to_le_bytes, w32}
use Rattle.std.proofs.lemmas.List.{append-nil, flat_map_more}
use Rattle.std.proofs.lemmas.List.Elements.{All-push, All-pop}
use Rattle.av1_replay.specs.Answers.{Agrees}
use Rattle.av1_replay.specs.declared.answer.Answer.{Answer}
use Rattle.av1_replay.specs.declared.answer.Wanted.{Wanted}
use Rattle.av1_rows.specs.Rows.{Replayed, Told, told_by, wanted_by, IsReplayed, BeginWith, AllAgree, body, magic, row_before, rows_text}
use Rattle.av1_rows.specs.Tallies.{Counts, Differs, counts_of, earlier, no_rows, with_replayed}

-- a fold over one item more
pub fold_more : {A B : Type 0} (f : B → A → B) (b : B) (xs : List A) (x : A) → fold f b (xs ++ x ∷ []) ≡ f (fold f b xs) x
fold_more f b [] x = refl
fold_more f b (y ∷ xs) x = fold_more f (f b y) xs x

-- a number, some bytes and more of them, before others
behind : (kind : ℕ) (size bytes others : List ℕ) → kind ∷ (size ++ (bytes ++ others)) ≡ (kind ∷ (size ++ (bytes ++ []))) ++ others
behind kind size bytes others =
    ap (λ (t : List ℕ). kind ∷ t) (sym (append_assoc size bytes others) ∙ ap (λ t. (size ++ t) ++ others) (sym (append-nil bytes)))

-- the bytes of one row more
more_text : (bytes left left' : List ℕ) (rows : List Replayed) (next : Replayed) → bytes ≡ (magic ++ rows_text rows) ++ left → left ≡ row_before next.row left'
    → bytes ≡ (magic ++ rows_text (rows ++ next ∷ [])) ++ left'
more_text bytes left left' rows next begin read =
    let f : Replayed → List ℕ = λ replayed. row_before replayed.row [] in
    begin ∙ ap (λ t. (magic ++ rows_text rows) ++ t) (read ∙ behind next.row.kind (to_le_bytes w32 (length (body next.row))) (body next.row) left')
    ∙ sym (append_assoc (magic ++ rows_text rows) (f next) left') ∙ ap (λ t. t ++ left') (flat_map_more f magic rows next)

-- the first difference stays
some_earlier : {X : Type 0} (first : Option Differs) (later : Differs) → IsNone (earlier first later) → X
some_earlier None later none = absurd cc
some_earlier (Some first) later none = absurd cc

-- there is no first difference exactly where all rows agree, with one row more
clean_more : (agrees : Bool) (first : Option Differs) (later : Differs) (rows : List Replayed) (next : Replayed) → next.agrees ≡ agrees →
    (IsNone first ↔ AllAgree rows)
    → (IsNone (if agrees then first else earlier first later) ↔ AllAgree (rows ++ next ∷ []))
clean_more true first later rows next is clean =
    let P : Replayed → Type 0 = λ replayed. IsTrue replayed.agrees in
    (λ none. All-push P rows next (clean.0 none) is, λ all. clean.1 (All-pop P (rows ++ next ∷ []) rows (Some next) refl all).0)
clean_more false first later rows next is clean =
    let P : Replayed → Type 0 = λ replayed. IsTrue replayed.agrees in
    (λ none. some_earlier first later none, λ all. let true_is : next.agrees ≡ true = (All-pop P (rows ++ next ∷ []) rows (Some next) refl all).1 in absurd cc)

-- ---- so far

-- what holds after some rows, where so much is left of the bytes and these are the counts
pub record AreSoFar (bytes left : List ℕ) (counts : Counts) : Type 0 where
  pub rows : List Replayed
  pub begin : BeginWith bytes rows left
  pub counted : counts ≡ counts_of rows
  pub clean : IsNone counts.first ↔ AllAgree rows

-- one row more
pub more_so_far : (bytes left left' : List ℕ) (counts counts' : Counts) (next : Replayed) → AreSoFar bytes left counts → IsReplayed next →
    left ≡ row_before next.row left'
    → counts' ≡ with_replayed counts next → AreSoFar bytes left' counts'
more_so_far bytes left left' counts counts' next before is read counted = record {
  rows = before.rows ++ next ∷ [];
  begin = record {
    text = more_text bytes left left' before.rows next before.begin.text read;
    each = All-push IsReplayed before.rows next before.begin.each is;
  };
  counted = counted ∙ ap (λ c. with_replayed c next) before.counted ∙ sym (fold_more with_replayed no_rows before.rows next);
  clean = subst (λ (c : Counts). IsNone c.first ↔ AllAgree (before.rows ++ next ∷ [])) (sym counted)
      (clean_more next.agrees counts.first _ before.rows next refl before.clean);
}

-- ---- answers

-- an answer is the wanted one where it tells the same
pub agree_told : (wanted : Wanted) (came : Answer) → Agrees wanted came → wanted_by wanted ≡ told_by came
agree_told wanted came h = rw (h.same_status, h.same_text, h.same_count, h.same_sum) refl

pub told_agrees : (wanted : Wanted) (came : Answer) → wanted_by wanted ≡ told_by came → Agrees wanted came
told_agrees wanted came e = record {
  same_status = ap (λ (t : Told). t.status) e;
  same_text = ap (λ (t : Told). t.text) e;
  same_count = ap (λ (t : Told). t.count) e;
  same_sum = ap (λ (t : Told). t.digest) e;
}
