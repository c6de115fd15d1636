use Rattle.std.proofs.Common.{◌++◌, List, ℕ, map, take, ap, ◌∙◌}
use Rattle.av1_planwrite.specs.Text.{triples_text}
use Rattle.av1_c.specs.Leaves.{triple_of}
use Rattle.av1_c.proofs.LeafBytes.{no_chroma, with_chroma}
use Rattle.av1_c.proofs.append_leaf.put_chroma_coefficients.Goals as goal

pub returns-then-not-carried-clause-text : goal.returns-then-not-carried-clause-text
returns-then-not-carried-clause-text c =
    no_chroma c.args.carried (take c.args.at c.args.slice.now) (map triple_of c.args.u.now) (map triple_of c.args.v.now) c.if-not-carried.true

pub returns-clause-text : goal.returns-clause-text
returns-clause-text c =
    let u = map triple_of c.args.u.now in
    let v = map triple_of c.args.v.now in
    c.put_coefficients.ensures.text ∙ ap (λ (bytes : List ℕ). bytes ++ triples_text v) c.put_coefficients-at.ensures.text
    ∙ with_chroma c.args.carried (take c.args.at c.args.slice.now) u v c.if-not-carried.false
