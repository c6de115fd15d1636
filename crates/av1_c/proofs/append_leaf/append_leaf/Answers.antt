use Rattle.std.proofs.Common.{◌≡◌, ℕ, ◌+◌, ◌<◌, ◌≤◌, List, Option, drop, ◌++◌, length, map, take, ap, sym, subst, ◌∙◌, arith}
use Rattle.std.specs.Prelude.{is_some}
use Rattle.std.proofs.lemmas.List.{length-take-le, take_all}
use Rattle.av1_blocks.specs.declared.transform.TxType.{TxType}
use Rattle.av1_planwrite.specs.Text.{chroma_triples_text, leading_text, triples_text}
use Rattle.av1_c.specs.Builders.{room_fault}
use Rattle.av1_c.specs.Leaves.{kind_of, leaf_bytes, triple_of, tx_size_of, tx_type_of, uv_type_of}
use Rattle.av1_c.specs.declared.build_fault.BuildFault.{BuildFault}
use Rattle.av1_c.specs.declared.build_fault.BuildFault.TheVariants.{RoomTooSmall}
use Rattle.av1_c.proofs.Appended.{appended, passed_on}
use Rattle.av1_c.proofs.LeafBytes.{leading_is, leaf_is, leaf_length}
use Rattle.av1_c.proofs.append_leaf.append_leaf.Goals as goal

pub returns-in_err-end-clause-fault : goal.returns-in_err-end-clause-fault
returns-in_err-end-clause-fault c =
    let a = c.args in
    let n = a.leaf.now in
    let w = c.put_leading-front in
    let leading = w.ensures.text
    ∙ leading_is n c.kind.result c.tx_size.result c.tx_type.result c.uv_type-uv_type.result c.kind.ensures c.tx_size.ensures c.tx_type.ensures
    c.uv_type-uv_type.ensures in
    let front : w.result ≡ length (leading_text (kind_of n) (tx_size_of n.tx_size) (tx_type_of n.tx_type) (uv_type_of n)) =
    sym (length-take-le w.result w.new.slice (omega (arith, w.ensures.end))) ∙ ap length leading in
    let carried = c.is_some-carried.ensures ∙ ap (λ (o : Option TxType). is_some o) c.uv_type-uv_type.ensures in
    let len : w.result + c.coefficients_len.result ≡ length (leaf_bytes n a.y.now a.u.now a.v.now) =
    leaf_length n a.y.now a.u.now a.v.now c.is_some-carried.result w.result c.coefficients_len.result carried front c.coefficients_len.ensures in
    passed_on c.from_residual.result c.in_err-end.field-0.0
    (λ (fault : BuildFault). fault ≡ room_fault (a.written + length (leaf_bytes n a.y.now a.u.now a.v.now))) c.from_residual.ensures.1
    (c.in_err-end.ensures.fault ∙ ap (λ (count : ℕ). room_fault (a.written + count)) len)

pub returns-in_err-end-clause-small : goal.returns-in_err-end-clause-small
returns-in_err-end-clause-small c =
    let a = c.args in
    let n = a.leaf.now in
    let w = c.put_leading-front in
    let leading = w.ensures.text
    ∙ leading_is n c.kind.result c.tx_size.result c.tx_type.result c.uv_type-uv_type.result c.kind.ensures c.tx_size.ensures c.tx_type.ensures
    c.uv_type-uv_type.ensures in
    let front : w.result ≡ length (leading_text (kind_of n) (tx_size_of n.tx_size) (tx_type_of n.tx_type) (uv_type_of n)) =
    sym (length-take-le w.result w.new.slice (omega (arith, w.ensures.end))) ∙ ap length leading in
    let carried = c.is_some-carried.ensures ∙ ap (λ (o : Option TxType). is_some o) c.uv_type-uv_type.ensures in
    let len : w.result + c.coefficients_len.result ≡ length (leaf_bytes n a.y.now a.u.now a.v.now) =
    leaf_length n a.y.now a.u.now a.v.now c.is_some-carried.result w.result c.coefficients_len.result carried front c.coefficients_len.ensures in
    passed_on c.from_residual.result c.in_err-end.field-0.0 (λ (fault : BuildFault). fault ≡ RoomTooSmall →
    length a.room.now < a.written + length (leaf_bytes n a.y.now a.u.now a.v.now)) c.from_residual.ensures.1
    (λ is. subst (λ (count : ℕ). length a.room.now < a.written + count) len (c.in_err-end.ensures.small is))

pub returns-clause-appended : goal.returns-clause-appended
returns-clause-appended c =
    let a = c.args in
    let n = a.leaf.now in
    let w = c.put_leading-front in
    let next = c.split_at_mut-next in
    let last = c.put_chroma_coefficients in
    let len = w.result + c.coefficients_len.result in
    let y_text = triples_text (map triple_of a.y.now) in
    let chroma = chroma_triples_text c.is_some-carried.result (map triple_of a.u.now) (map triple_of a.v.now) in
    let length_is : length last.new.slice ≡ len = omega (arith, next.ensures.front_len) in
    let leading = w.ensures.text
    ∙ leading_is n c.kind.result c.tx_size.result c.tx_type.result c.uv_type-uv_type.result c.kind.ensures c.tx_size.ensures c.tx_type.ensures
    c.uv_type-uv_type.ensures in
    let carried = c.is_some-carried.ensures ∙ ap (λ (o : Option TxType). is_some o) c.uv_type-uv_type.ensures in
    let count : length (take w.result w.new.slice) ≡ w.result = length-take-le w.result w.new.slice (omega (arith, w.ensures.end)) in
    let all : length last.new.slice ≤ last.result =
    omega (arith, length_is, count, last.ensures.end, c.put_coefficients-at.ensures.end, c.put-at.ensures.end, c.coefficients_len.ensures) in
    let whole : last.new.slice ≡ leaf_bytes n a.y.now a.u.now a.v.now =
    sym (take_all last.result last.new.slice all) ∙ last.ensures.text
    ∙ ap (λ (bytes : List ℕ). bytes ++ chroma) (c.put_coefficients-at.ensures.text ∙ ap (λ (bytes : List ℕ). bytes ++ y_text) (c.put-at.ensures.text ∙ leading))
    ∙ leaf_is n a.y.now a.u.now a.v.now c.is_some-carried.result carried in
    appended a.room.now c.split_at_mut-free.result.0.now last.new.slice next.result.1.now (leaf_bytes n a.y.now a.u.now a.v.now) a.written len c.in_ok-end.end
    c.in_ok-end.ensures.end c.in_ok-end.ensures.fits c.in_ok-end.ensures.short c.split_at_mut-free.ensures.front (next.ensures.back
    ∙ ap (λ (bytes : List ℕ). drop len bytes) c.split_at_mut-free.ensures.back) whole length_is
