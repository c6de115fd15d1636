-- The page of what was gathered.
use Rattle.std.proofs.Common.{◌≡◌, ℕ, List, ap, ◌∙◌}
use Rattle.av1_plan.specs.declared.header.Header.{Header}
use Rattle.av1_plan.specs.Plan.{PlanValue}
use Rattle.av1_planwrite.specs.Text.{plan_text}
use Rattle.av1_tile.specs.Output.{planes_of}
use Rattle.av1_tile.specs.Predicted.{predictions_of}
use Rattle.av1_view.specs.Packed.{packed}
use Rattle.av1_view.specs.Page.{page}
use Rattle.av1_view.specs.Shown.{packed_predictions, row_len, trace_page}

pub page_is : (plan : PlanValue) (text planes predictions given : List ℕ) → text ≡ plan_text plan → planes ≡ planes_of plan
    → predictions ≡ packed_predictions plan → page text planes predictions given ≡ trace_page plan given
unfolding trace_page
page_is plan text planes predictions given a b c =
    ap (λ l. page l planes predictions given) a ∙ ap (λ l. page (plan_text plan) l predictions given) b
    ∙ ap (λ l. page (plan_text plan) (planes_of plan) l given) c

-- what was packed of a plan that was reconstructed
pub packed_is : (plan : PlanValue) (h : Header) (row : ℕ) (planes predictions : List ℕ) → row ≡ row_len h → h ≡ plan.header → planes ≡ planes_of plan
    → predictions ≡ predictions_of plan → packed row planes predictions ≡ packed_predictions plan
unfolding packed_predictions
packed_is plan h row planes predictions wide same a b =
    ap (λ (n : ℕ). packed n planes predictions) (wide ∙ ap row_len same) ∙ ap (λ (l : List ℕ). packed (row_len plan.header) l predictions) a
    ∙ ap (packed (row_len plan.header) (planes_of plan)) b
