-- The list of the key grows by the code, and the others stay; where memory is wanting, so does the list of the key.
use Rattle.std.proofs.Common.{◌≡◌, ◌<◌, [], ◌∷◌, ◌++◌, length, set, get_or, map, vec_items, sym, ap, ap₂, ◌∙◌, arith}
use Rattle.std.proofs.lemmas.List.{length-map, map-set, get_or-map}
use Rattle.std.proofs.Math.Seq.{map-set_same}
use Rattle.std.proofs.lemmas.Result.{err_from_is_err_and}
use Rattle.extractors.proofs.rows.Rows.file.Goals as goal

pub returns-clause-filed : goal.returns-clause-filed
returns-clause-filed c =
    let k = c.args.key in
    let lists = c.self.inside.rows.items in
    let is : map vec_items lists ≡ c.args.self.now = c.self.view_is in
    let there : k < length lists = omega (arith, length-map lists vec_items, ap length is, c.requires) in
    let old : vec_items c.index_mut.result.now ≡ get_or c.args.self.now k [] =
    ap vec_items c.index_mut.ensures.value ∙ sym (get_or-map vec_items lists k c.index_mut.result.now [] there) ∙ ap (λ r. get_or r k []) is in
    map-set vec_items lists k c.push.new.self ∙ ap₂ (λ r l. set r k l) is (c.in_ok-push.ensures.items ∙ ap (λ l. l ++ (c.args.code ∷ [])) old)

pub returns-in_err-push-clause-unchanged : goal.returns-in_err-push-clause-unchanged
returns-in_err-push-clause-unchanged c =
    let kept = c.in_err-push.ensures.items ∙ ap vec_items c.index_mut.ensures.value in
    let p = err_from_is_err_and c.from_residual.result c.from_residual.ensures.1 in
    rw p.1 (map-set_same vec_items c.self.inside.rows.items c.args.key c.push.new.self c.index_mut.result.now kept ∙ c.self.view_is)
