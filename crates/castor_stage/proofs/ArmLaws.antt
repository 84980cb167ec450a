-- What an arm of the walk that holds data has shown of its relation.
use Rattle.std.proofs.Common.{◌≡◌, ◌∙◌, ℕ, List, [], ◌∷◌, map, sym, ap}
use Rattle.castor_val.specs.declared.row.Row.{Row}
use Rattle.castor_val.specs.declared.table.Table.{Table}
use Rattle.castor_alg.specs.declared.expr.Expr.{Expr}
use Rattle.castor_alg.specs.declared.out.Out.{Out}
use Rattle.castor_alg.specs.declared.rel.Agg.{Agg}
use Rattle.castor_alg.specs.declared.rel.Bound.{Bound}
use Rattle.castor_alg.specs.declared.rel.Key.{Key}
use Rattle.castor_alg.specs.declared.rel.Rel.{Rel}
use Rattle.castor_alg.specs.declared.rel.Rel as R
use Rattle.castor_alg.specs.Expression.{expr_value}
use Rattle.castor_alg.specs.Meaning.{meaning}
use Rattle.castor_alg.specs.Scopes.{Scopes, bind, unbound}
use Rattle.castor_alg.specs.declared.held_out.HeldOut.{HeldOut}
use Rattle.castor_alg.specs.HeldData.{held_under, keyed, keys_of, leaf, listed, parted, within}
use Rattle.castor_stage.proofs.HoldingLaws.{holding-Table, holding-Scalar, holding-Select, holding-Filter, holding-Join, holding-Group, holding-Order, holding-Dedup, holding-Cross, holding-Concat, holding-DepJoin, holding-List, holding-Hash, holding-Ord}

module _ (ts : List Table) (env : Scopes) (p : Row) where
  abbrev held : Rel → HeldOut
  held q = held_under q ts env unbound p

  abbrev body : Rel → ℕ → Row → HeldOut
  body s k a = held_under s ts (bind env k a) unbound p

  pub cross_held : (q : Rel) (rs slice : List Rel) (out : HeldOut) → q ≡ R.Cross rs → slice ≡ rs → out ≡ parted (map held slice) → out ≡ held q
  cross_held q rs slice out is same found = found ∙ ap (λ (xs : List Rel). parted (map held xs)) same ∙ sym (ap held is ∙ holding-Cross ts env unbound p rs)

  pub concat_held : (q : Rel) (rs slice : List Rel) (out : HeldOut) → q ≡ R.Concat rs → slice ≡ rs → out ≡ parted (map held slice) → out ≡ held q
  concat_held q rs slice out is same found = found ∙ ap (λ (xs : List Rel). parted (map held xs)) same ∙ sym (ap held is ∙ holding-Concat ts env unbound p rs)

  pub depjoin_held : (q : Rel) (k : ℕ) (r r' s s' : Rel) (out : HeldOut) → q ≡ R.DepJoin k r s → r' ≡ r → s' ≡ s → out ≡ parted (held r' ∷ body s' k [] ∷ []) → out ≡ held q
  depjoin_held q k r r' s s' out is same same_s found = found ∙ (λ i. parted (held (same i) ∷ body (same_s i) k [] ∷ [])) ∙ sym (ap held is ∙ holding-DepJoin ts env unbound p k r s)

  pub list_held : (q : Rel) (k : ℕ) (r r' s s' : Rel) (source : Out) (out : HeldOut) → q ≡ R.List k r s → r' ≡ r → s' ≡ s → source ≡ meaning r' ts env p → out ≡ listed (λ a. body s' k a) source → out ≡ held q
  list_held q k r r' s s' source out is same same_s rows found =
      found ∙ ap (listed (λ a. body s' k a)) rows ∙ (λ i. listed (λ a. body (same_s i) k a) (meaning (same i) ts env p)) ∙ sym (ap held is ∙ holding-List ts env unbound p k r s)

  pub hash_held : (q : Rel) (k : ℕ) (r r' s s' : Rel) (es : List Expr) (keys : Out) (out : HeldOut) → q ≡ R.Hash k r s es → r' ≡ r → s' ≡ s → keys ≡ keys_of (meaning r' ts env p) → out ≡ keyed (λ a. body s' k a) keys → out ≡ held q
  hash_held q k r r' s s' es keys out is same same_s rows found =
      found ∙ ap (keyed (λ a. body s' k a)) rows ∙ (λ i. keyed (λ a. body (same_s i) k a) (keys_of (meaning (same i) ts env p))) ∙ sym (ap held is ∙ holding-Hash ts env unbound p k r s es)

  pub ord_held : (q : Rel) (k : ℕ) (r r' s s' : Rel) (lo hi : Bound) (keys : Out) (out : HeldOut) → q ≡ R.Ord k r s lo hi → r' ≡ r → s' ≡ s → keys ≡ keys_of (meaning r' ts env p) → out ≡ keyed (λ a. body s' k a) keys → out ≡ held q
  ord_held q k r r' s s' lo hi keys out is same same_s rows found =
      found ∙ ap (keyed (λ a. body s' k a)) rows ∙ (λ i. keyed (λ a. body (same_s i) k a) (keys_of (meaning (same i) ts env p))) ∙ sym (ap held is ∙ holding-Ord ts env unbound p k r s lo hi)

  pub table_held : (q : Rel) (n : ℕ) (out : HeldOut) → q ≡ R.Table n → out ≡ parted [] → out ≡ held q
  table_held q n out is found = found ∙ sym (ap held is ∙ holding-Table ts env unbound p n)

  pub join_held : (q : Rel) (e : Expr) (r s : Rel) (out : HeldOut) → q ≡ R.Join e r s → out ≡ parted [] → out ≡ held q
  join_held q e r s out is found = found ∙ sym (ap held is ∙ holding-Join ts env unbound p e r s)

  pub scalar_held : (q : Rel) (e : Expr) (out : HeldOut) → q ≡ R.Scalar e → out ≡ leaf (expr_value e [] env p) → out ≡ held q
  scalar_held q e out is found = found ∙ sym (ap held is ∙ holding-Scalar ts env unbound p e)

  pub select_held : (q : Rel) (es : List Expr) (r r' : Rel) (out : HeldOut) → q ≡ R.Select es r → r' ≡ r → out ≡ within (held r') → out ≡ held q
  select_held q es r r' out is same found = found ∙ ap (λ (x : Rel). within (held x)) same ∙ sym (ap held is ∙ holding-Select ts env unbound p es r)

  pub filter_held : (q : Rel) (e : Expr) (r r' : Rel) (out : HeldOut) → q ≡ R.Filter e r → r' ≡ r → out ≡ within (held r') → out ≡ held q
  filter_held q e r r' out is same found = found ∙ ap (λ (x : Rel). within (held x)) same ∙ sym (ap held is ∙ holding-Filter ts env unbound p e r)

  pub group_held : (q : Rel) (ks : List ℕ) (aggs : List Agg) (r r' : Rel) (out : HeldOut) → q ≡ R.Group ks aggs r → r' ≡ r → out ≡ within (held r') → out ≡ held q
  group_held q ks aggs r r' out is same found = found ∙ ap (λ (x : Rel). within (held x)) same ∙ sym (ap held is ∙ holding-Group ts env unbound p ks aggs r)

  pub order_held : (q : Rel) (ks : List Key) (r r' : Rel) (out : HeldOut) → q ≡ R.Order ks r → r' ≡ r → out ≡ within (held r') → out ≡ held q
  order_held q ks r r' out is same found = found ∙ ap (λ (x : Rel). within (held x)) same ∙ sym (ap held is ∙ holding-Order ts env unbound p ks r)

  pub dedup_held : (q r r' : Rel) (out : HeldOut) → q ≡ R.Dedup r → r' ≡ r → out ≡ within (held r') → out ≡ held q
  dedup_held q r r' out is same found = found ∙ ap (λ (x : Rel). within (held x)) same ∙ sym (ap held is ∙ holding-Dedup ts env unbound p r)
