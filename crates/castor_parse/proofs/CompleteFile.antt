-- What the grammar derives as a file is read so.
use Rattle.std.proofs.Common.{◌≡◌, ℕ, zero, suc, ◌-◌, ◌≤◌, ◌<◌, true, List, [], ◌∷◌, ◌++◌, length, Some, refl, sym, ap, ◌∙◌, append_assoc, append-nil, arith}
use Rattle.castor_val.specs.declared.value.Ty.{Ty}
use Rattle.castor_tokens.specs.declared.token.Keyword.TheVariants as word
use Rattle.castor_tree.specs.declared.tree.Word.{Word}
use Rattle.castor_tree.specs.declared.tree.Decl.{Decl}
use Rattle.castor_tree.specs.declared.tree.PRel.{PRel}
use Rattle.castor_parse.specs.Lexemes.{Lexeme, name, keyword, Lexemes}
use Rattle.castor_parse.specs.Limits.{are_few_open}
use Rattle.castor_parse.specs.Grammar as g
use Rattle.castor_parse.specs.Grammar.{Separated, IsType, IsColumn, IsDecl, AreDecls, IsRel, IsFile}
use Rattle.castor_tree.specs.Sizes.{all_nodes, nodes}
use Rattle.castor_parse.specs.Parser.{Outcome, Parser, at, spend, first_kind, read_name, followed, expect_symbol, expect_keyword, read_type, read_column, read_table, read_param_decl, decls_by, decls_from, read_decls, read_end, read_file, nesting, separated}
use Rattle.castor_parse.proofs.SoundFile.{none_spent}
use Rattle.castor_parse.proofs.SoundLists.{no_nodes, all_nodes-none}
use Rattle.castor_parse.proofs.Past.{Past, behind, before, in_parens, separated_past, type_past, column_past, decls_past}
use Rattle.castor_parse.proofs.CompleteExpr.{Done, Room, past_token}
use Rattle.castor_parse.proofs.CompleteLists.{separated_done}
use Rattle.castor_parse.proofs.CompleteRel.{NoLimit, plain_done, rel_done}

type_done : {ts us : Lexemes} {t : Ty} → IsType ts t us → (m : ℕ) → read_type (at ts m) ≡ Some (t, at us m)
unfolding read_type
type_done g.int_type m = refl
type_done g.bool_type m = refl
type_done g.text_type m = refl

column_done : {ts us : Lexemes} {c : Word × Ty} → IsColumn ts c us → (m : ℕ) → read_column (at ts m) ≡ Some (c, at us m)
unfolding read_column read_name
column_done (g.column d) m = rw (type_done d m) refl

columns_done : (b : ℕ) {ts us : Lexemes} {cs : List (Word × Ty)} → Separated IsColumn ts cs (g.close_paren ∷ us) → Done (all_nodes no_nodes) (separated read_column (at ts b)) b cs (g.close_paren ∷ us)
columns_done b s = separated_done IsColumn no_nodes read_column NoLimit NoLimit (λ ts us x d. column_past d) (λ ts us p f. tt) (λ us. tt) (λ ts us x d f e j. plain_done _ j x us (column_done d j)) s tt tt refl b

-- ---- declarations, which spend nothing of a budget b

list_read : {A : Type 0} (b : ℕ) → 0 < b → (o : Outcome (List A)) (xs : List A) (us : Lexemes) → Done (all_nodes no_nodes) o b xs us → o ≡ Some (xs, at us b)
list_read b some o xs us d =
    let none : d.left ≡ b = none_spent b d.left (all_nodes no_nodes xs) b d.spent (all_nodes-none xs) refl in
    let same : d.made ≡ xs = d.same (omega (arith, none, some)) in
    d.is ∙ (λ i. Some (same i, at us (none i)))

decl_done : (b : ℕ) → 0 < b → {ts us : Lexemes} {d : Decl} → IsDecl ts d us → (found : List Decl) (go_on : List Decl → Parser (List Decl)) → decls_by (first_kind ts) found go_on (at ts b) ≡ go_on (found ++ d ∷ []) (at us b)
unfolding read_table read_param_decl read_name followed expect_symbol
decl_done b some (g.table_decl {ts} {us} {cs = cs} s) found go_on = rw (list_read b some (separated read_column (at ts b)) cs (g.close_paren ∷ g.semicolon ∷ us) (columns_done b s)) refl
decl_done b some (g.param_decl d) found go_on = rw (type_done d b) refl

-- a declaration takes a token
strictly : {ts us : Lexemes} (t : Lexeme) → Past ts us → suc (length us) ≤ length (t ∷ ts)
strictly t p = omega (arith, p.shorter)

decl_shorter : {ts us : Lexemes} {d : Decl} → IsDecl ts d us → suc (length us) ≤ length ts
decl_shorter (g.table_decl {w = w} s) = strictly (keyword word.Table) (behind (name w) (λ k. refl) (before g.semicolon (λ k. refl) (in_parens (separated_past IsColumn (λ ts us x i. column_past i) s))))
decl_shorter (g.param_decl {w = w} d) = strictly (keyword word.Param) (behind (name w) (λ k. refl) (before g.semicolon (λ k. refl) (type_past d)))

-- the declarations end at the word `query`
query_stops : (b n : ℕ) (found : List Decl) (vs : Lexemes) → decls_from n found (at (keyword word.Query ∷ vs) b) ≡ Some (found, at (keyword word.Query ∷ vs) b)
unfolding decls_from
query_stops b zero found vs = refl
query_stops b (suc n) found vs = refl

-- one turn of the loop
decl_turn : (b : ℕ) → 0 < b → (n : ℕ) (found : List Decl) (ts us : Lexemes) (d : Decl) → IsDecl ts d us → suc (length us) ≤ n → decls_from n found (at ts b) ≡ decls_from (n - 1) (found ++ d ∷ []) (at us b)
unfolding decls_from
decl_turn b some zero found ts us d is enough = absurd (omega arith)
decl_turn b some (suc n) found ts us d is enough = decl_done b some is found (decls_from n) ∙ ap (λ k. decls_from k (found ++ d ∷ []) (at us b)) (one_less n)
  where
    one_less : (k : ℕ) → k ≡ suc k - 1
    one_less k = omega arith

decls_done : (b : ℕ) → 0 < b → {ts us : Lexemes} {ds : List Decl} → AreDecls ts ds us → (vs : Lexemes) → us ≡ keyword word.Query ∷ vs → (n : ℕ) → length ts ≤ n → (found : List Decl) → decls_from n found (at ts b) ≡ Some (found ++ ds, at us b)
decls_done b some (g.no_decls {ts}) vs e n enough found = rw e (query_stops b n found vs ∙ ap (λ ds. Some (ds, at (keyword word.Query ∷ vs) b)) (sym (append-nil found)))
decls_done b some (g.more_decls {ts} {us} {vs = ws} {d = x} {ds = ds} d s) vs e n enough found =
    decl_turn b some n found ts us x d (omega (arith, decl_shorter d, enough))
    ∙ decls_done b some s vs e (n - 1) (omega (arith, decl_shorter d, enough)) (found ++ x ∷ [])
    ∙ ap (λ xs. Some (xs, at ws b)) (append_assoc found (x ∷ []) ds)

-- a file was read on a budget b, and its query is what was made while some of the budget is left
pub record FileDone (b : ℕ) (ts : Lexemes) (ds : List Decl) (q : PRel) : Type 0 where
  pub made : PRel
  pub left : ℕ
  pub is : read_file (at ts b) ≡ Some ((ds, made), at [] left)
  pub spent : left ≡ spend b (nodes q)
  pub same : 0 < left → made ≡ q

pub file_done : (b : ℕ) → 0 < b → {ts : Lexemes} {ds : List Decl} {q : PRel} → IsFile ts ds q → are_few_open 0 ts ≡ true → FileDone b ts ds q
unfolding read_file read_decls read_end expect_keyword
file_done b some (g.file {ts} {us} {ds} {q} s d) few =
    let before_query : Past ts us = past_token (keyword word.Query) (λ k. refl) (decls_past s) in
    let room : Room nesting 0 us = record { deep = omega arith; within = omega arith; few = before_query.stays 0 few } in
    let x = rel_done d nesting 0 room b in
    record {
      made = x.made;
      left = x.left;
      is = rw (decls_done b some s us refl (length ts) (omega arith) []) (rw x.is refl);
      spent = x.spent;
      same = x.same;
    }
