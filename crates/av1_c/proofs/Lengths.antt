-- How many bytes the planes of a plan have.
use Rattle.std.proofs.Common.{◌≡◌, ℕ, ◌+◌, ◌*◌, ◌/◌, ◌%◌, ◌==◌, ◌≤◌, Bool, true, false, List, [], ◌∷◌, ◌++◌, length, take, refl, sym, ap, ◌∙◌, arith}
use Rattle.std.proofs.Common.{length-append}
use Rattle.std.specs.Prelude.{if◌then◌else◌}
use Rattle.std.specs.List.{flat_map}
use Rattle.std.proofs.lemmas.List.{length-take}
use Rattle.std.proofs.Math.Nat.{mul_comm, mul-add}
use Rattle.av1_lists.specs.Lists.{by_index}
use Rattle.av1_lists.proofs.Lists.{length-by_index}
use Rattle.av1_plan.specs.Geometry.{shown_rows, plane_len, shown_columns}
use Rattle.av1_plan.specs.Plan.{PlanValue}
use Rattle.av1_plan.specs.declared.header.Header.{Header}
use Rattle.av1_tile.specs.Canvas.{Component, U, V, Y}
use Rattle.av1_tile.specs.Edge.{sample_of}
use Rattle.av1_tile.specs.Output.{by_rows, plane_bytes, planes_of, sample_bytes, visible}
use Rattle.av1_tile.specs.PlaneBlocks.{shown_of}
use Rattle.av1_tile.specs.Reference.{slow_walk}
use Rattle.av1_trace.specs.Samples.{planes_len, sample_len, samples_before}

-- lists of n items each, one behind the other
all_of : {A B : Type 0} (f : A → List B) (n : ℕ) → ((x : A) → length (f x) ≡ n) → (xs : List A) → length (flat_map f xs) ≡ length xs * n
all_of f n e [] = omega arith
all_of f n e (x ∷ xs) = omega (arith, length-append (f x) (flat_map f xs), e x, all_of f n e xs)

by_width : (narrow : Bool) (v : ℕ) → length (if narrow then v ∷ [] else v % 256 ∷ v / 256 ∷ []) ≡ (if narrow then 1 else 2)
by_width true v = refl
by_width false v = refl

sample_is : (depth v : ℕ) → length (sample_bytes depth v) ≡ sample_len depth
unfolding sample_len
sample_is depth v = by_width (depth == 8) v

plane_is : (h : Header) (p : ℕ) (f : ℕ → ℕ → ℕ) → length (plane_bytes (shown_of h p) f) ≡ sample_len h.depth * plane_len h p
plane_is h p f =
    let width = shown_columns h p in
    let height = shown_rows h p in
    let rows : length (by_rows (shown_of h p) f) ≡ height * width =
    all_of (λ y. by_index width (λ x. f x y)) width (λ y. length-by_index width (λ x. f x y)) (by_index height (λ y. y))
    ∙ ap (λ (n : ℕ). n * width) (length-by_index height (λ y. y)) in
    all_of (sample_bytes h.depth) (sample_len h.depth) (sample_is h.depth) (by_rows (shown_of h p) f)
    ∙ ap (λ (n : ℕ). n * sample_len h.depth) (rows ∙ mul_comm height width)
    ∙ mul_comm (width * height) (sample_len h.depth)

three : (s a b c : ℕ) → s * a + s * b + s * c ≡ s * (0 + a + b + c)
three s a b c =
    let none : 0 + a ≡ a = omega arith in
    sym (ap (λ (z : ℕ). s * (z + b + c)) none ∙ mul-add s (a + b) c ∙ ap (λ (z : ℕ). z + s * c) (mul-add s a b))

-- the visible planes of a frame have the length that its header tells, whatever they hold
pub length-visible : (h : Header) (f : Component → ℕ → ℕ → ℕ) → length (visible h f) ≡ planes_len h
unfolding visible planes_len samples_before
length-visible h f =
    let y = plane_bytes (shown_of h 0) (f Y) in
    let u = plane_bytes (shown_of h 1) (f U) in
    let v = plane_bytes (shown_of h 2) (f V) in
    let parts : length (y ++ u ++ v) ≡ sample_len h.depth * plane_len h 0 + sample_len h.depth * plane_len h 1 + sample_len h.depth * plane_len h 2 =
    omega (arith, length-append (y ++ u) v, length-append y u, plane_is h 0 (f Y), plane_is h 1 (f U), plane_is h 2 (f V)) in
    parts ∙ three (sample_len h.depth) (plane_len h 0) (plane_len h 1) (plane_len h 2)

-- and so do those of a plan
length-planes_of : (plan : PlanValue) → length (planes_of plan) ≡ planes_len plan.header
unfolding planes_of
length-planes_of plan = length-visible plan.header (λ component x y. sample_of (slow_walk plan component x y))

pub wanted_is : (value : PlanValue) (h : Header) (len : ℕ) → len ≡ planes_len h → h ≡ value.header → len ≡ length (planes_of value)
wanted_is value h len is same = is ∙ ap planes_len same ∙ sym (length-planes_of value)

-- the front of a buffer is as long as the planes that were written to an empty sink
pub same_length : (value : PlanValue) (len : ℕ) (room before taken : List ℕ) → len ≤ length room → len ≡ length (planes_of value) → before ≡ [] →
    taken ≡ before ++ planes_of value → length (take len room) ≡ length taken
same_length value len room before taken fits is empty appended =
    omega (arith, length-take len room, fits, is, ap length empty, ap length appended, length-append before (planes_of value))
