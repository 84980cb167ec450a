-- A stored relation is well typed with the same column types, and has the same rows and the same faults.
use Rattle.std.proofs.Common.{◌≡◌, ◌∙◌, ℕ, suc, ◌+◌, ◌-◌, ◌^◌, ◌<◌, min, List, [], ◌∷◌, length, map, refl, sym, ap, subst, Bool, true, cond, Ok, Err, Option, Some, None, slice_get, option_and_then, option_map, if◌then◌else◌, arith}
use Rattle.std.specs.List.{flat_map}
use Rattle.std.specs.Prelude.{is_some}
use Rattle.std.proofs.lemmas.Bool.{eq-eqb}
use Rattle.castor_val.specs.declared.row.Row.{Row}
use Rattle.castor_val.specs.declared.table.Table.{Table}
use Rattle.castor_val.specs.declared.value.Ty.{Ty}
use Rattle.castor_val.specs.Values.{row_fits}
use Rattle.castor_val.proofs.FitLaws.{length-row_fits}
use Rattle.castor_alg.specs.declared.context.Context.{Context}
use Rattle.castor_alg.specs.declared.expr.Expr.{Expr, Scope}
use Rattle.castor_alg.specs.declared.out.Out.{Out}
use Rattle.castor_alg.specs.declared.rel.Rel.{Rel, Scalar, Cross, List as Listed}
use Rattle.castor_alg.specs.declared.step.Arg.{Arg}
use Rattle.castor_alg.specs.declared.step.Arg.TheVariants.{Nothing, Pred}
use Rattle.castor_alg.specs.Fits.{Fits}
use Rattle.castor_alg.specs.Meaning.{meaning}
use Rattle.castor_alg.specs.Rows.{depjoined, single}
use Rattle.castor_alg.specs.Scopes.{Scopes, bind}
use Rattle.castor_alg.specs.Typing.{Typed, allowed, are_columns, column_types, cross_types, each, extended, is_context, scope_types, types_under, with_both, within_limits}
use Rattle.castor_alg.proofs.TypingLaws.{scope_types-extended}
use Rattle.castor_alg.specs.Equivalence.{Equivalent}
use Rattle.castor_laws.proofs.ColumnCountLaws.{has_columns}
use Rattle.castor_laws.proofs.EachLaws.{each_weaker}
use Rattle.castor_laws.proofs.EquivalenceLaws.{equivalent_by}
use Rattle.castor_laws.proofs.OutcomeLaws.{depjoined_same, no_more_faults, outcome_by}
use Rattle.castor_laws.proofs.RelClauseLaws.{meaning-List}
use Rattle.castor_laws.proofs.RowFitLaws.{rows_fit_types}
use Rattle.castor_laws.proofs.TypeClauseLaws.{type_under-Scope, types_under-Cross, types_under-List, types_under-Scalar}
use Rattle.castor_laws.proofs.TypePartLaws.{if_parts}
use Rattle.castor_alg.specs.ColumnCount.{column_count}
use Rattle.castor_nest.specs.ScopeColumns.{scope_columns, scope_columns_from}
use Rattle.castor_nest.specs.Store.{store_row, stored}
use Rattle.castor_alg.specs.declared.rule_error.RuleError.TheVariants.{BadArgument}
use Rattle.castor_laws.proofs.CountedColumnLaws.{columns_counted}
use Rattle.castor_laws.proofs.ScalarLaws.{scalars_beside}
use Rattle.castor_nest.proofs.ScopeRowLaws.{scope_is_row}

-- scalars of the columns of a scope have its column types
module _ (context : Context) (k : ℕ) (columns : List Ty) (is : scope_types context.scopes k ≡ Some columns) where
  scalar_typed : (at : ℕ) (t : Ty) → slice_get columns at ≡ Some t → types_under (Scalar (Scope k at)) context ≡ Some (t ∷ [])
  scalar_typed at t found =
      types_under-Scalar context (Scope k at)
      ∙ ap (option_map (λ t. t ∷ [])) (type_under-Scope [] context k at ∙ ap (option_and_then (λ types. slice_get types at)) is ∙ found)

  scalars_typed : (at : ℕ) (rest : List Ty) → ((i : ℕ) → slice_get columns (at + i) ≡ slice_get rest i) → each (map (λ (r : Rel). types_under r context) (map Scalar (scope_columns_from k at (length rest)))) ≡ Some (map (λ t. t ∷ []) rest)
  scalars_typed at [] same = refl
  scalars_typed at (t ∷ rest) same =
      let here : at + 0 ≡ at = omega arith in
      let found : slice_get columns at ≡ Some t = ap (slice_get columns) (sym here) ∙ same 0 in
      λ i. with_both (λ x xs. x ∷ xs) (scalar_typed at t found i) (scalars_typed (at + 1) rest (λ j. further j) i)
    where
      further : (j : ℕ) → slice_get columns (at + 1 + j) ≡ slice_get rest j
      further j = let next : at + 1 + j ≡ at + suc j = omega arith in ap (slice_get columns) next ∙ same (suc j)

  apart : (types : List Ty) → flat_map (λ ts. ts) (map (λ t. t ∷ []) types) ≡ types
  apart [] = refl
  apart (t ∷ types) = ap (λ ts. t ∷ ts) (apart types)

  cross_typed : (n : ℕ) → n ≡ length columns → are_columns columns ≡ true → types_under (Cross (map Scalar (scope_columns k n))) context ≡ Some columns
  cross_typed n long within =
      types_under-Cross context (map Scalar (scope_columns k n))
      ∙ ap (λ (m : ℕ). cross_types (map (λ (r : Rel). types_under r context) (map Scalar (scope_columns k m)))) long
      ∙ ap (λ os. within_limits (option_map (λ all. flat_map (λ types. types) all) os)) (scalars_typed 0 columns (λ i. let first : 0 + i ≡ i = omega arith in ap (slice_get columns) first))
      ∙ ap (λ ts. within_limits (Some ts)) (apart columns)
      ∙ ap (λ b. allowed b columns) within

bound_here : (context : Context) (k : ℕ) (types : List Ty) → scope_types (extended context k types).scopes k ≡ Some types
bound_here context k types = scope_types-extended context k types k ∙ ap (λ (b : Bool). if b then Some types else scope_types context.scopes k) (eq-eqb k k refl)

-- the column types stay
pub stored_typed : (q : Rel) (k : ℕ) (context : Context) (types : List Ty) → is_context context ≡ true → types_under q context ≡ Some types → types_under (stored context.tables k q) context ≡ Some types
stored_typed q k context types within typed =
    types_under-List context k q (Cross (map Scalar (scope_columns k (column_count context.tables q))))
    ∙ ap (option_and_then (λ columns. types_under (Cross (map Scalar (scope_columns k (column_count context.tables q)))) (extended context k columns))) typed
    ∙ cross_typed (extended context k types) k types (bound_here context k types) (column_count context.tables q) (columns_counted q context types typed) (has_columns q context types within typed)

-- each row again, with no faults of its own
again : (r : Out) → depjoined (λ row. single (Ok row)) r ≡ r
again r = outcome_by _ _ (alone r.rows) (no_more_faults r.faults r.rows)
  where
    alone : (rows : List Row) → flat_map (λ row. row ∷ []) rows ≡ rows
    alone [] = refl
    alone (row ∷ rows) = ap (λ others. row ∷ others) (alone rows)

-- the rows and the faults stay
pub stored_means : (q : Rel) (k : ℕ) (context : Context) (types : List Ty) → types_under q context ≡ Some types → (ts : List Table) (env : Scopes) (p : Row) → Fits context ts env p → meaning (stored context.tables k q) ts env p ≡ meaning q ts env p
stored_means q k context types typed ts env p fits =
    meaning-List ts env p k q (Cross (map Scalar (scope_columns k (column_count context.tables q))))
    ∙ depjoined_same _ (λ row. single (Ok row)) (meaning q ts env p) (each_weaker (λ row. row_fits row types ≡ true) _ row_again (rows_fit_types q context types typed ts env p fits))
    ∙ again (meaning q ts env p)
  where
    row_again : (row : Row) → row_fits row types ≡ true → meaning (Cross (map Scalar (scope_columns k (column_count context.tables q)))) ts (bind env k row) p ≡ single (Ok row)
    row_again row fit =
        scalars_beside (bind env k row) p ts (scope_columns k (column_count context.tables q))
        ∙ ap single (scope_is_row (bind env k row) p k (column_count context.tables q) row (ap (λ (b : Bool). cond b row (env k)) (eq-eqb k k refl)) (length-row_fits row types fit ∙ sym (columns_counted q context types typed)))

-- so the stored relation is equivalent
pub store_keeps : (q : Rel) (k : ℕ) (context : Context) → Typed q context → Equivalent context q (stored context.tables k q)
store_keeps q k context typed =
    let types = typed_parts (column_types q context) typed in
    let parts = if_parts (is_context context) (types_under q context) types.0 types.1 in
    equivalent_by context q (stored context.tables k q) typed
    (ap (λ (o : Option (List Ty)). if is_context context then o else None) (parts.1 ∙ sym (stored_typed q k context types.0 parts.0 parts.1)))
    (λ ts env p fits. sym (stored_means q k context types.0 parts.1 ts env p fits))
  where
    typed_parts : (o : Option (List Ty)) → is_some o ≡ true → (types : List Ty) × (o ≡ Some types)
    typed_parts None is = cc
    typed_parts (Some types) is = (types, refl)

-- what the code makes of the scalars
pub stored_is : (tables : List (List Ty)) (k count : ℕ) (q r : Rel) (scalars : List Rel) → count ≡ min (column_count tables q) (2 ^ 64 - 1) → count < 2 ^ 32 → scalars ≡ map Scalar (scope_columns k count) → r ≡ Listed k q (Cross scalars) → r ≡ stored tables k q
stored_is tables k count q r scalars counted below made is =
    let whole : count ≡ column_count tables q = omega arith in
    is ∙ ap (λ rs. Listed k q (Cross rs)) (made ∙ ap (λ (n : ℕ). map Scalar (scope_columns k n)) whole)

pub row_is : (arg : Arg) (fresh : ℕ) (types : Context) (q r : Rel) (tables : List (List Ty)) → arg ≡ Nothing → tables ≡ types.tables → r ≡ stored tables fresh q → store_row arg fresh types q ≡ Ok r
row_is arg fresh types q r tables none same is = ap (λ (a : Arg). store_row a fresh types q) none ∙ ap Ok (sym (is ∙ ap (λ (ts : List (List Ty)). stored ts fresh q) same))

pub row_refused : (arg : Arg) (e : Expr) (fresh : ℕ) (types : Context) (q : Rel) → arg ≡ Pred e → store_row arg fresh types q ≡ Err BadArgument
row_refused arg e fresh types q some = ap (λ (a : Arg). store_row a fresh types q) some

pub row_keeps : (fresh : ℕ) (types : Context) (q r : Rel) (tables : List (List Ty)) → Typed q types → tables ≡ types.tables → r ≡ stored tables fresh q → Equivalent types q r
row_keeps fresh types q r tables typed same is = subst (Equivalent types q) (sym (is ∙ ap (λ (ts : List (List Ty)). stored ts fresh q) same)) (store_keeps q fresh types typed)
