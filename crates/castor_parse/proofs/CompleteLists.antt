-- What the grammar derives as a list is read so.
use Rattle.std.proofs.Common.{◌≡◌, ℕ, zero, suc, ◌+◌, ◌-◌, ◌≤◌, ◌<◌, false, List, [], ◌∷◌, ◌++◌, length, Some, refl, sym, ap, ◌∙◌, subst, append_assoc, arith}
use Rattle.castor_tokens.specs.declared.token.Symbol.TheVariants as sign
use Rattle.castor_parse.specs.Lexemes.{Lexemes}
use Rattle.castor_parse.specs.Grammar as g
use Rattle.castor_parse.specs.Grammar.{Separated, last, more, MaybeSeparated, no_items, some_items}
use Rattle.castor_tree.specs.Sizes.{all_nodes}
use Rattle.castor_parse.specs.Parser.{Outcome, Parser, and_then, at, spend, first_kind, is_symbol, eat_symbol, expect_symbol, followed, separated_from, separated, bracketed, maybe_bracketed}
use Rattle.castor_parse.proofs.Readings.{spend_none, spends, had_some}
use Rattle.castor_parse.proofs.SoundLists.{all_nodes-last, all_nodes-cons}
use Rattle.castor_parse.proofs.Past.{Past, both_past, token_past}
use Rattle.castor_parse.proofs.CompleteExpr.{Done, goes}

-- no comma comes next
abbrev pub HasNoComma : Lexemes → Type 0
HasNoComma us = is_symbol sign.Comma (first_kind us) ≡ false

-- a list in another grouping
regrouped : {A : Type 0} (size : List A → ℕ) (o : Outcome (List A)) (m : ℕ) (xs ys : List A) (us : Lexemes) → xs ≡ ys → Done size o m xs us → Done size o m ys us
regrouped size o m xs ys us e d = subst (λ zs. Done size o m zs us) e d

less : (n k : ℕ) → n ≡ suc k → k ≡ n - 1
less n k e = omega (arith, e)

same_len : (n k : ℕ) → suc n ≡ suc k → k ≡ n
same_len n k e = omega (arith, e)

add_zero : (n : ℕ) → n + 0 ≡ n
add_zero n = omega arith

-- each item is read where its lexemes fit the reader, and where what follows it may do so
module _ {A : Type 0} (R : Lexemes → A → Lexemes → Type 0) (size : A → ℕ) (item : Parser A) (Fits Follows : Lexemes → Type 0)
    (past : (ts us : Lexemes) (x : A) → R ts x us → Past ts us)
    (fits_past : (ts us : Lexemes) → Past ts us → Fits ts → Fits us)
    (comma_follows : (us : Lexemes) → Follows (g.comma ∷ us))
    (done : (ts us : Lexemes) (x : A) → R ts x us → Fits ts → Follows us → (m : ℕ) → Done size (item (at ts m)) m x us) where
  list_stops : (n : ℕ) (found : List A) (us : Lexemes) (c : ℕ) → HasNoComma us → separated_from item n found (at us c) ≡ Some (found, at us c)
  unfolding separated_from eat_symbol
  list_stops zero found us c none = refl
  list_stops (suc n) found us c none = rw none refl

  -- one item behind those that were found
  one_more : (found tree : List A) (m c : ℕ) (x : A) (us : Lexemes) → c ≡ spend m (all_nodes size tree) → (0 < c → found ≡ tree) → (o : Outcome A) → (d : Done size o c x us) → (d.left ≡ spend m (all_nodes size (tree ++ x ∷ []))) × (0 < d.left → found ++ d.made ∷ [] ≡ tree ++ x ∷ [])
  one_more found tree m c x us spent same o d = (
    spends m c d.left (all_nodes size tree) (size x) spent d.spent ∙ ap (spend m) (sym (all_nodes-last size tree x)),
    (λ le. let p = same (had_some c d.left (size x) d.spent le) in let q = d.same le in λ i. p i ++ q i ∷ []),
  )

  -- a comma was passed, and the items behind it were read
  after_comma : (n : ℕ) (found : List A) (us : Lexemes) (c : ℕ) (r : Outcome (List A)) → suc (length us) ≤ n → ((k : ℕ) → length us ≤ k → n ≡ suc k → and_then (item (at us c)) (λ y. separated_from item k (found ++ y ∷ [])) ≡ r) → separated_from item n found (at (g.comma ∷ us) c) ≡ r
  unfolding separated_from eat_symbol
  after_comma zero found us c r enough h = absurd (omega arith)
  after_comma (suc k) found us c r enough h = h k (omega arith) refl

  -- the items from one on, behind those that were found
  next_items : {ts us : Lexemes} {xs : List A} → Separated R ts xs us → Fits ts → Follows us → HasNoComma us → (n : ℕ) → length ts ≤ n → (found tree : List A) (m c : ℕ) → c ≡ spend m (all_nodes size tree) → (0 < c → found ≡ tree) → Done (all_nodes size) (and_then (item (at ts c)) (λ x. separated_from item n (found ++ x ∷ []))) m (tree ++ xs) us
  next_items (last {ts = ts} {us = us} {x = x} d) fits follows none n enough found tree m c spent same =
      let one = done ts us x d fits follows c in
      let kept = one_more found tree m c x us spent same (item (at ts c)) one in
      record { made = found ++ one.made ∷ []; left = one.left; is = goes one _ _ (list_stops n (found ++ one.made ∷ []) us one.left none); spent = kept.0; same = kept.1 }
  next_items (more {ts = ts} {us = us} {vs = vs} {x = x} {xs = xs} d s) fits follows none n enough found tree m c spent same =
      let one = done ts (g.comma ∷ us) x d fits (comma_follows us) c in
      let kept = one_more found tree m c x (g.comma ∷ us) spent same (item (at ts c)) one in
      let shorter = (past ts (g.comma ∷ us) x d).shorter in
      let here = fits_past ts us (both_past (past ts (g.comma ∷ us) x d) (token_past g.comma us (λ k. refl))) fits in
      let rest = next_items s here follows none (n - 1) (omega (arith, enough, shorter)) (found ++ one.made ∷ []) (tree ++ x ∷ []) m one.left kept.0 kept.1 in
      record {
        made = rest.made;
        left = rest.left;
        is = goes one _ _ (after_comma n (found ++ one.made ∷ []) us one.left _ (omega (arith, enough, shorter)) (λ k le e. ap (λ j. and_then (item (at us one.left)) (λ y. separated_from item j ((found ++ one.made ∷ []) ++ y ∷ []))) (less n k e) ∙ rest.is));
        spent = rest.spent ∙ ap (λ ys. spend m (all_nodes size ys)) (append_assoc tree (x ∷ []) xs);
        same = λ le. rest.same le ∙ append_assoc tree (x ∷ []) xs;
      }

  pub separated_done : {ts us : Lexemes} {xs : List A} → Separated R ts xs us → Fits ts → Follows us → HasNoComma us → (m : ℕ) → Done (all_nodes size) (separated item (at ts m)) m xs us
  unfolding separated
  separated_done (last {ts = ts} {us = us} {x = x} d) fits follows none m =
      let one = done ts us x d fits follows m in
      record {
        made = one.made ∷ [];
        left = one.left;
        is = goes one _ _ (list_stops (length us) (one.made ∷ []) us one.left none);
        spent = one.spent ∙ ap (spend m) (sym (all_nodes-cons size x [] ∙ add_zero (size x)));
        same = λ le. ap (λ y. y ∷ []) (one.same le);
      }
  separated_done (more {ts = ts} {us = us} {vs = vs} {x = x} {xs = xs} d s) fits follows none m =
      let one = done ts (g.comma ∷ us) x d fits (comma_follows us) m in
      let here = fits_past ts us (both_past (past ts (g.comma ∷ us) x d) (token_past g.comma us (λ k. refl))) fits in
      let rest = next_items s here follows none (length us) (omega arith) (one.made ∷ []) (x ∷ []) m one.left (one.spent ∙ ap (spend m) (sym (all_nodes-cons size x [] ∙ add_zero (size x)))) (λ le. ap (λ y. y ∷ []) (one.same le)) in
      record {
        made = rest.made;
        left = rest.left;
        is = goes one _ _ (after_comma (length (g.comma ∷ us)) (one.made ∷ []) us one.left _ (omega arith) (λ k le e. ap (λ j. and_then (item (at us one.left)) (λ y. separated_from item j ((one.made ∷ []) ++ y ∷ []))) (same_len (length us) k e) ∙ rest.is));
        spent = rest.spent;
        same = rest.same;
      }

  -- in brackets
  pub bracketed_done : {ts us : Lexemes} {xs : List A} → Separated R ts xs (g.close_bracket ∷ us) → Fits ts → Follows (g.close_bracket ∷ us) → (m : ℕ) → Done (all_nodes size) (bracketed item (at (g.open_bracket ∷ ts) m)) m xs us
  unfolding bracketed followed expect_symbol
  bracketed_done s fits follows m =
      let d = separated_done s fits follows refl m in
      record { made = d.made; left = d.left; is = goes d _ _ refl; spent = d.spent; same = d.same }

  maybe_of : {ts ws : Lexemes} {xs : List A} → MaybeSeparated R ts xs ws → (us : Lexemes) → ws ≡ g.close_bracket ∷ us → ((ts us : Lexemes) (xs : List A) → Separated R ts xs us → is_symbol sign.CloseBracket (first_kind ts) ≡ false) → Fits ts → Follows (g.close_bracket ∷ us) → (m : ℕ) → Done (all_nodes size) (maybe_bracketed item (at (g.open_bracket ∷ ts) m)) m xs us
  unfolding maybe_bracketed followed expect_symbol eat_symbol
  maybe_of no_items us e begins fits follows m = rw e (record { made = []; left = m; is = refl; spent = spend_none m; same = λ le. refl })
  maybe_of (some_items {ts = ts} {us = ws} {xs = xs} s) us e begins fits follows m =
      let sep : Separated R ts xs (g.close_bracket ∷ us) = subst (λ w. Separated R ts xs w) e s in
      let d = separated_done sep fits follows refl m in
      record { made = d.made; left = d.left; is = rw (begins ts ws xs s) (goes d _ _ refl); spent = d.spent; same = d.same }

  -- none, or some, in brackets
  pub maybe_done : {ts us : Lexemes} {xs : List A} → MaybeSeparated R ts xs (g.close_bracket ∷ us) → ((ts us : Lexemes) (xs : List A) → Separated R ts xs us → is_symbol sign.CloseBracket (first_kind ts) ≡ false) → Fits ts → Follows (g.close_bracket ∷ us) → (m : ℕ) → Done (all_nodes size) (maybe_bracketed item (at (g.open_bracket ∷ ts) m)) m xs us
  maybe_done s begins fits follows m = maybe_of s _ refl begins fits follows m
