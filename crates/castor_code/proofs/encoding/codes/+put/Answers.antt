use Rattle.std.proofs.Common.{◌≡◌, ◌∙◌, ◌++◌, List, length, map, rules, ap}
use Rattle.std.proofs.lemmas.Result.{on_ok_weaker}
use Rattle.castor_fixed.specs.Fields.{field}
use Rattle.castor_code.specs.declared.code.Code.{Code}
use Rattle.castor_code.specs.declared.code.Code.TheFolds.{the_lemmas}
use Rattle.castor_code.specs.declared.code.Code as C
use Rattle.castor_code.specs.Forms.{in_turn, node, u32_form, u8_form}
use Rattle.castor_code.specs.CodeForms.{CodeForm, code_bytes, code_form, code_form_step, dep_head, form_in, hash_head, hash_tail, int_parts, key_code_form, key_codes_form, list_parts, ord_head, ord_tail, ranges_form, some_form}
use Rattle.castor_code.proofs.CodeInduction.{fold-Int, fold-Cross, fold-Concat, fold-List, fold-Hash, fold-Ord, fold-Dep}
use Rattle.castor_code.proofs.PutLaws.{code_put, dep_known, hash_known, ord_known, three_put, three_then, two_then}
use Rattle.castor_code.proofs.encoding.codes.+put.Goals as goal

pub put_code-put_hash_kid-requires : goal.put_code-put_hash_kid-requires
put_code-put_hash_kid-requires t c = (search (rules, the_lemmas), rw (c.get-in-Hash.ensures, c.as_slice-in-Hash-2.ensures) (hash_known c.args.code.now _ _ _ _ _ c.in-Hash.is c.requires).1)

pub put_code-put_ord_kid-requires : goal.put_code-put_ord_kid-requires
put_code-put_ord_kid-requires t c = (search (rules, the_lemmas), rw c.get-in-Ord-2.ensures (ord_known c.args.code.now _ _ _ _ _ _ c.in-Ord.is c.requires).1)

pub put_code-put_code-requires : goal.put_code-put_code-requires
put_code-put_code-requires t c = (search (rules, the_lemmas), rw c.get-in-Dep-2.ensures (dep_known c.args.code.now _ _ _ c.in-Dep.is c.requires).1)

pub put_code-returns-in_ok-put_int_code-in-Int : goal.put_code-returns-in_ok-put_int_code-in-Int
put_code-returns-in_ok-put_int_code-in-Int t c =
    let lo = c.in-Int.lo in
    let hi = c.in-Int.hi in
    let old = c.args.out.now.items in
    let wrote : c.put_int_code.new.out.items ≡ old ++ (node 1 (int_parts lo hi)).bytes = search (rules, c.in_ok-put_int_code-in-Int.ensures) in
    code_put old _ c.args.code.now (C.Int lo hi) _ wrote c.in-Int.is (fold-Int CodeForm code_form_step c.in-Int.lo c.in-Int.hi)

pub put_code-returns-in_ok-put_kids-in-Cross : goal.put_code-returns-in_ok-put_kids-in-Cross
put_code-returns-in_ok-put_kids-in-Cross t c =
    let old = c.args.out.now.items in
    code_put old _ c.args.code.now _ _
    (c.in_ok-put_kids-in-Cross.ensures ∙ ap (λ (ks : List Code). old ++ (node 4 (some_form form_in (map code_form ks))).bytes) c.as_slice.ensures)
    c.in-Cross.is (fold-Cross CodeForm code_form_step c.in-Cross.kids)

pub put_code-returns-in_ok-put_kids-in-Concat : goal.put_code-returns-in_ok-put_kids-in-Concat
put_code-returns-in_ok-put_kids-in-Concat t c =
    let old = c.args.out.now.items in
    code_put old _ c.args.code.now _ _
    (c.in_ok-put_kids-in-Concat.ensures ∙ ap (λ (ks : List Code). old ++ (node 5 (some_form form_in (map code_form ks))).bytes) c.as_slice-in-Concat.ensures)
    c.in-Concat.is (fold-Concat CodeForm code_form_step c.in-Concat.kids)

pub put_code-returns-in_ok-put_list-in-List : goal.put_code-returns-in_ok-put_list-in-List
put_code-returns-in_ok-put_list-in-List t c =
    let old = c.args.out.now.items in
    code_put old _ c.args.code.now _ _
    (c.in_ok-put_list-in-List.ensures ∙ ap (λ (kid : Code). old ++ (node 6 (list_parts c.in-List.count c.in-List.body (code_form kid).form)).bytes) c.get.ensures)
    c.in-List.is (fold-List CodeForm code_form_step c.in-List.count c.in-List.body c.in-List.kid)

pub put_code-returns-in_ok-put_hash_kid-in-Hash : goal.put_code-returns-in_ok-put_hash_kid-in-Hash
put_code-returns-in_ok-put_hash_kid-in-Hash t c =
    let old = c.args.out.now.items in
    let key = c.in-Hash.key in
    let kid = c.in-Hash.kid in
    let by = c.in-Hash.by in
    let head : c.put_hash_key.new.out.items ≡ old ++ (hash_head c.in-Hash.count c.in-Hash.body (map code_form key)).bytes = rw (← c.as_slice-in-Hash.ensures) c.in_ok-put_hash_key-in-Hash.ensures in
    let tail : c.put_hash_kid.new.out.items ≡ c.put_hash_key.new.out.items ++ (hash_tail (code_form kid).form by).bytes = rw (← c.get-in-Hash.ensures, ← c.as_slice-in-Hash-2.ensures) c.in_ok-put_hash_kid-in-Hash.ensures in
    code_put old _ c.args.code.now _ _
    (three_then old _ _ (field 255 7) (ranges_form c.in-Hash.count c.in-Hash.body).bytes (u8_form (length (map code_form key))).bytes (in_turn (map key_code_form (map code_form key))).bytes (hash_tail (code_form kid).form by).bytes head tail)
    c.in-Hash.is (fold-Hash CodeForm code_form_step c.in-Hash.count c.in-Hash.body key kid by)

pub put_code-returns-in_ok-put_ord_kid-in-Ord : goal.put_code-returns-in_ok-put_ord_kid-in-Ord
put_code-returns-in_ok-put_ord_kid-in-Ord t c =
    let old = c.args.out.now.items in
    let key = c.in-Ord.key in
    let kid = c.in-Ord.kid in
    let head : c.put_ord_key.new.out.items ≡ old ++ (ord_head c.in-Ord.count c.in-Ord.body (code_form key)).bytes = rw (← c.get-in-Ord.ensures) c.in_ok-put_ord_key-in-Ord.ensures in
    let tail : c.put_ord_kid.new.out.items ≡ c.put_ord_key.new.out.items ++ (ord_tail (code_form kid).form c.in-Ord.lo c.in-Ord.hi).bytes = rw (← c.get-in-Ord-2.ensures) c.in_ok-put_ord_kid-in-Ord.ensures in
    code_put old _ c.args.code.now _ _
    (two_then old _ _ (field 255 8) (ranges_form c.in-Ord.count c.in-Ord.body).bytes (code_bytes key) (ord_tail (code_form kid).form c.in-Ord.lo c.in-Ord.hi).bytes head tail)
    c.in-Ord.is (fold-Ord CodeForm code_form_step c.in-Ord.count c.in-Ord.body key kid c.in-Ord.lo c.in-Ord.hi)

pub put_code-returns-in_ok-put_code-in-Dep : goal.put_code-returns-in_ok-put_code-in-Dep
put_code-returns-in_ok-put_code-in-Dep t c =
    let old = c.args.out.now.items in
    let first = c.in-Dep.first in
    let second = c.in-Dep.second in
    let head : c.put_dep_first.new.out.items ≡ old ++ (dep_head c.in-Dep.scope (code_form first).form).bytes = rw (← c.get-in-Dep.ensures) c.in_ok-put_dep_first-in-Dep.ensures in
    let tail : c.put_code.new.out.items ≡ c.put_dep_first.new.out.items ++ code_bytes second = rw (← c.get-in-Dep-2.ensures) c.in_ok-put_code-in-Dep.ensures in
    code_put old _ c.args.code.now _ _
    (two_then old _ _ (field 255 11) (u32_form c.in-Dep.scope).bytes (code_bytes first) (code_bytes second) head tail)
    c.in-Dep.is (fold-Dep CodeForm code_form_step c.in-Dep.scope first second)

pub put_list-returns : goal.put_list-returns
put_list-returns t c =
    on_ok_weaker c.put_code.result
    (three_put c.args.out.now.items _ _ _ (field 255 6) (ranges_form c.args.count c.args.body).bytes (code_bytes c.args.kid.now) c.in_ok-put_tag.ensures c.in_ok-put_ranges.ensures)
    c.put_code.ensures

pub put_hash_key-returns : goal.put_hash_key-returns
put_hash_key-returns t c =
    on_ok_weaker c.put_key_codes.result
    (three_put c.args.out.now.items _ _ _ (field 255 7) (ranges_form c.args.count c.args.body).bytes (key_codes_form (map code_form c.args.key.now)).bytes c.in_ok-put_tag.ensures c.in_ok-put_ranges.ensures)
    c.put_key_codes.ensures

pub put_ord_key-returns : goal.put_ord_key-returns
put_ord_key-returns t c =
    on_ok_weaker c.put_code.result
    (three_put c.args.out.now.items _ _ _ (field 255 8) (ranges_form c.args.count c.args.body).bytes (code_bytes c.args.key.now) c.in_ok-put_tag.ensures c.in_ok-put_ranges.ensures)
    c.put_code.ensures
