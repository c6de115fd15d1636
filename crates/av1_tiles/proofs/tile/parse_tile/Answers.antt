use Rattle.std.proofs.Common.{◌≡◌, IfOk, MatchResult, List, ℕ, subst, arith}
use Rattle.av1_plan.specs.declared.error.PlanError.TheVariants.{Memory}
use Rattle.av1_plan.specs.Values.{plan_value, IfMalformed}
use Rattle.av1_plan.specs.Format.{Format}
use Rattle.av1_plan.specs.Grammar.{plan_behind}
use Rattle.av1_plan.specs.Plan.{PlanValue, slot_values}
use Rattle.av1_plan.specs.Spelling.{AreText, AreRefused}
use Rattle.av1_tiles.specs.File.{front_value, file_value}
use Rattle.av1_tiles.specs.Tiles.{tile_plan, part_of}
use Rattle.av1_tiles.proofs.Slots.{format_is, part_is}
use Rattle.av1_tiles.proofs.tile.parse_tile.Goals as goal

format : (c : goal.After-parse_plan_behind) →
    plan_behind c.tile_header-header.result (slot_values c.in_ok-references.references.items) ≡ tile_plan (front_value c.args.file.now.front) c.args.index
format c =
    format_is c.args.file.now.front c.args.index c.tile_area-area.result c.tile_header-header.result c.in_ok-references.references.items c.deref.result.now
    c.tile_area-area.ensures.value c.tile_header-header.ensures c.in_ok-references.ensures.value c.deref.ensures.value

bytes : (c : goal.After-parse_plan_behind) → c.index.result.now.now ≡ part_of (file_value c.args.file.now) c.args.index
bytes c =
    part_is (λ part. part.now) c.args.file.now.parts.items c.args.index c.index.result.now (omega (arith, c.requires.tile, c.requires.read.count))
    c.index.ensures

pub returns-clause-found : goal.returns-clause-found
returns-clause-found c =
    subst (λ (f : Format PlanValue). IfOk c.parse_plan_behind.result (λ p. AreText f (part_of (file_value c.args.file.now) c.args.index) (plan_value p)))
    (format c)
    (subst (λ (part : List ℕ). IfOk c.parse_plan_behind.result
    (λ p. AreText (plan_behind c.tile_header-header.result (slot_values c.in_ok-references.references.items)) part (plan_value p)))
    (bytes c) c.parse_plan_behind.ensures.found)

pub returns-clause-refused : goal.returns-clause-refused
returns-clause-refused c =
    subst (λ (f : Format PlanValue). IfMalformed c.parse_plan_behind.result (λ at. AreRefused f (part_of (file_value c.args.file.now) c.args.index) at))
    (format c)
    (subst (λ (part : List ℕ). IfMalformed c.parse_plan_behind.result
    (λ at. AreRefused (plan_behind c.tile_header-header.result (slot_values c.in_ok-references.references.items)) part at))
    (bytes c) c.parse_plan_behind.ensures.refused)

pub returns-clause-only : goal.returns-clause-only
returns-clause-only c =
    subst (λ (f : Format PlanValue). (p : PlanValue) → AreText f (part_of (file_value c.args.file.now) c.args.index) p →
    MatchResult c.parse_plan_behind.result (λ x. plan_value x ≡ p) (λ e. e ≡ Memory)) (format c)
    (subst (λ (part : List ℕ). (p : PlanValue) → AreText (plan_behind c.tile_header-header.result (slot_values c.in_ok-references.references.items)) part p →
    MatchResult c.parse_plan_behind.result (λ x. plan_value x ≡ p) (λ e. e ≡ Memory)) (bytes c)
    c.parse_plan_behind.ensures.only)
