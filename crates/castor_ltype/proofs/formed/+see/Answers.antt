use Rattle.std.proofs.Common.{◌≡◌, ◌∙◌, Bool, List, map, true, ap, sym}
use Rattle.std.specs.List.{list_all}
use Rattle.std.proofs.lemmas.Bool.{and_from}
use Rattle.std.proofs.lemmas.List.Folds.{list_all-map}
use Rattle.castor_alg.specs.declared.expr.Expr.{Expr}
use Rattle.castor_code.specs.declared.code.Code.{Code}
use Rattle.castor_code.specs.declared.code.Code as C
use Rattle.castor_code.specs.declared.code.Range.{Range}
use Rattle.castor_code.proofs.CodeInduction.{fold-Concat, fold-Cross, fold-Hash}
use Rattle.castor_ltype.specs.Formed.{is_sized, is_sized_expr, is_sized_range, sized_step}
use Rattle.castor_ltype.proofs.formed.+see.Goals as goal

kids_sized : (kids seen : List Code) → seen ≡ kids → list_all is_sized seen ≡ true → list_all (λ b. b) (map is_sized kids) ≡ true
kids_sized kids seen same sized = list_all-map (λ b. b) is_sized kids ∙ ap (list_all is_sized) (sym same) ∙ sized

hash_sized : (count body : Range) (key : List Code) (kid : Code) (by : List Expr) (c : Code) → c ≡ C.Hash count body key kid by → is_sized_range count ≡ true → is_sized_range body ≡ true → list_all (λ b. b) (map is_sized key) ≡ true → is_sized kid ≡ true → list_all is_sized_expr by ≡ true → is_sized c ≡ true
hash_sized count body key kid by c is counts bodies keys under over =
    ap is_sized is ∙ fold-Hash Bool sized_step count body key kid by
    ∙ and_from _ _ counts (and_from _ _ bodies (and_from _ _ keys (and_from _ _ under over)))

pub see-returns-in-Cross : goal.see-returns-in-Cross
see-returns-in-Cross t c = ap is_sized c.in-Cross.is ∙ fold-Cross Bool sized_step c.in-Cross.kids ∙ kids_sized c.in-Cross.kids _ c.as_slice.ensures c.see_each.ensures

pub see-returns-in-Concat : goal.see-returns-in-Concat
see-returns-in-Concat t c = ap is_sized c.in-Concat.is ∙ fold-Concat Bool sized_step c.in-Concat.kids ∙ kids_sized c.in-Concat.kids _ c.as_slice-in-Concat.ensures c.see_each-in-Concat.ensures

pub see-returns-in-Hash : goal.see-returns-in-Hash
see-returns-in-Hash t c =
    hash_sized _ _ c.in-Hash.key c.in-Hash.kid c.in-Hash.by _ c.in-Hash.is c.see_range-in-Hash.ensures c.see_range-in-Hash-2.ensures (kids_sized c.in-Hash.key _ c.as_slice-in-Hash.ensures c.see_each-in-Hash.ensures)
    (ap is_sized (sym c.get-in-Hash.ensures) ∙ c.see-in-Hash.ensures)
    (ap (list_all is_sized_expr) (sym c.as_slice-in-Hash-2.ensures) ∙ c.see_exprs.ensures)
