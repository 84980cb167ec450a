-- What the rules of files read stands in the grammar.
use Rattle.std.proofs.Common.{◌≡◌, ℕ, zero, suc, ◌<◌, List, [], ◌∷◌, ◌++◌, length, refl, sym, ap, ◌∙◌, subst, arith}
use Rattle.castor_val.specs.declared.value.Ty.TheVariants as ty
use Rattle.castor_tokens.specs.declared.token.Keyword.TheVariants as word
use Rattle.castor_tokens.specs.declared.token.Symbol.TheVariants as sign
use Rattle.castor_tree.specs.declared.tree.Decl.{Decl}
use Rattle.castor_tree.specs.declared.tree.Decl.TheVariants as decl
use Rattle.castor_tree.specs.declared.tree.PRel.{PRel}
use Rattle.castor_parse.specs.Lexemes.{keyword, Lexemes}
use Rattle.castor_parse.specs.Grammar as g
use Rattle.castor_parse.specs.Grammar.{Separated, IsType, IsColumn, IsDecl, AreDecls, IsRel, IsFile}
use Rattle.castor_tree.specs.Sizes.{all_nodes, nodes}
use Rattle.castor_parse.specs.Parser.{State, Parser, at, spend, first_kind, read_type, read_column, read_table, read_param_decl, decls_by, decls_from, read_decls, read_end, read_file, nesting}
use Rattle.castor_parse.proofs.Outcomes.{Gives, gives_none, gives_some, step}
use Rattle.castor_parse.proofs.Readings.{Plain, SoundPlain, expects_symbol, expects_keyword, reads_name}
use Rattle.castor_parse.proofs.SoundLists.{no_nodes, plain, all_nodes-none, step_then, separated_reads}
use Rattle.castor_parse.proofs.SoundRel.{rel_reads}

type_reads_at : (ts : Lexemes) (n : ℕ) → Gives (read_type (at ts n)) (Plain IsType (at ts n))
unfolding read_type
type_reads_at [] n = gives_none _
type_reads_at (keyword word.Int ∷ ts) n = gives_some _ ty.Int (at ts n) (record { derived = g.int_type; budget = refl })
type_reads_at (keyword word.Bool ∷ ts) n = gives_some _ ty.Bool (at ts n) (record { derived = g.bool_type; budget = refl })
type_reads_at (keyword word.Text ∷ ts) n = gives_some _ ty.Text (at ts n) (record { derived = g.text_type; budget = refl })
type_reads_at (t ∷ ts) n = gives_none _

column_reads : SoundPlain IsColumn read_column
unfolding read_column
column_reads st =
    step (reads_name st) (λ w s1 h. step (type_reads_at s1.rest s1.budget) (λ t s2 j.
    gives_some _ (w, t) s2 (record { derived = subst (λ us. IsColumn us (w, t) s2.rest) (sym h.rest) (g.column j.derived); budget = j.budget ∙ h.budget })))

-- nothing was spent
pub none_spent : (n m k b : ℕ) → m ≡ spend n k → k ≡ 0 → n ≡ b → m ≡ b
none_spent n m k b h e f = omega (arith, h, e, f)

-- ---- declarations, which spend nothing of a budget b

table_reads : (b : ℕ) → 0 < b → (ts : Lexemes) → Gives (read_table (at (keyword word.Table ∷ ts) b)) (λ d new. IsDecl (keyword word.Table ∷ ts) d new.rest × (new.budget ≡ b))
unfolding read_table
table_reads b some ts =
    step (reads_name (at ts b)) (λ w s1 h1. step (expects_symbol sign.OpenParen s1) (λ u s2 h2. step_then _ sign.CloseParen s2 (separated_reads IsColumn no_nodes read_column (plain column_reads) s2) (λ cs s4 h4. step (expects_symbol sign.Semicolon s4) (λ u2 s5 h5.
    let none : s4.budget ≡ b = none_spent s2.budget s4.budget (all_nodes no_nodes h4.tree) b h4.spent (all_nodes-none h4.tree) (h2.budget ∙ h1.budget) in
    let same : cs ≡ h4.tree = h4.same (omega (arith, none, some)) in
    gives_some _ (decl.Table w cs) s5 (
      subst (λ xs. IsDecl (keyword word.Table ∷ ts) (decl.Table w xs) s5.rest) (sym same)
          (rw (h1.rest, h2.rest) (g.table_decl (subst (λ us. Separated IsColumn s2.rest h4.tree (g.close_paren ∷ us)) h5.rest h4.derived))),
      h5.budget ∙ none,
    )))))

param_reads : (b : ℕ) (ts : Lexemes) → Gives (read_param_decl (at (keyword word.Param ∷ ts) b)) (λ d new. IsDecl (keyword word.Param ∷ ts) d new.rest × (new.budget ≡ b))
unfolding read_param_decl
param_reads b ts =
    step (reads_name (at ts b)) (λ w s1 h1. step (type_reads_at s1.rest s1.budget) (λ t s2 h2. step (expects_symbol sign.Semicolon s2) (λ u s3 h3.
    gives_some _ (decl.Param w t) s3 (
      subst (λ us. IsDecl (keyword word.Param ∷ us) (decl.Param w t) s3.rest) (sym h1.rest) (g.param_decl (subst (IsType s1.rest t) h3.rest h2.derived)),
      h3.budget ∙ h2.budget ∙ h1.budget,
    ))))

-- one more declaration at the end
one_more_decl : {ts us : Lexemes} {ds : List Decl} → AreDecls ts ds us → (vs : Lexemes) (d : Decl) → IsDecl us d vs → AreDecls ts (ds ++ d ∷ []) vs
one_more_decl g.no_decls vs d f = g.more_decls f g.no_decls
one_more_decl (g.more_decls e s) vs d f = g.more_decls e (one_more_decl s vs d f)

abbrev DeclsRead : ℕ → Lexemes → List Decl → State → Type 0
DeclsRead b start ds new = AreDecls start ds new.rest × (new.budget ≡ b)

decl_turn : (b : ℕ) → 0 < b → (start : Lexemes) (found : List Decl) (go_on : List Decl → Parser (List Decl)) → ((ds : List Decl) (ts : Lexemes) → AreDecls start ds ts → Gives (go_on ds (at ts b)) (DeclsRead b start)) → (ts : Lexemes) → AreDecls start found ts → Gives (decls_by (first_kind ts) found go_on (at ts b)) (DeclsRead b start)
decl_turn b some start found go_on goes [] h = gives_some _ found (at [] b) (h, refl)
decl_turn b some start found go_on goes (keyword word.Table ∷ ts) h =
    step (table_reads b some ts) (λ d new j. subst (λ n. Gives (go_on (found ++ d ∷ []) (at new.rest n)) (DeclsRead b start)) (sym j.1) (goes (found ++ d ∷ []) new.rest (one_more_decl h new.rest d j.0)))
decl_turn b some start found go_on goes (keyword word.Param ∷ ts) h =
    step (param_reads b ts) (λ d new j. subst (λ n. Gives (go_on (found ++ d ∷ []) (at new.rest n)) (DeclsRead b start)) (sym j.1) (goes (found ++ d ∷ []) new.rest (one_more_decl h new.rest d j.0)))
decl_turn b some start found go_on goes (t ∷ ts) h = gives_some _ found (at (t ∷ ts) b) (h, refl)

decls_from_reads : (b : ℕ) → 0 < b → (n : ℕ) (start : Lexemes) (found : List Decl) (ts : Lexemes) → AreDecls start found ts → Gives (decls_from n found (at ts b)) (DeclsRead b start)
unfolding decls_from
decls_from_reads b some zero start found ts h = gives_some _ found (at ts b) (h, refl)
decls_from_reads b some (suc n) start found ts h = decl_turn b some start found (decls_from n) (decls_from_reads b some n start) ts h

decls_read : (b : ℕ) → 0 < b → (ts : Lexemes) → Gives (read_decls (at ts b)) (DeclsRead b ts)
unfolding read_decls
decls_read b some ts = decls_from_reads b some (length ts) ts [] ts g.no_decls

-- a file was read on a budget b: its tree, which is what was made while some of the budget is left
pub record FileRead (b : ℕ) (ts : Lexemes) (x : List Decl × PRel) (new : State) : Type 0 where
  pub query : PRel
  pub derived : IsFile ts x.0 query
  pub spent : new.budget ≡ spend b (nodes query)
  pub same : 0 < new.budget → x.1 ≡ query

ends_at : (ts : Lexemes) (n : ℕ) → Gives (read_end (at ts n)) (λ u new. (new ≡ at ts n) × (ts ≡ []))
unfolding read_end
ends_at [] n = gives_some _ tt (at [] n) (refl, refl)
ends_at (t ∷ ts) n = gives_none _

pub file_reads : (b : ℕ) → 0 < b → (ts : Lexemes) → Gives (read_file (at ts b)) (FileRead b ts)
unfolding read_file
file_reads b some ts =
    step (decls_read b some ts) (λ ds s1 hd. step (expects_keyword word.Query s1) (λ u s2 hk. step (rel_reads nesting s2) (λ q s3 hq. step (ends_at s3.rest s3.budget) (λ u2 s4 hend.
    let started : s2.budget ≡ b = hk.budget ∙ hd.1 in
    gives_some _ (ds, q) s4 (record {
      query = hq.tree;
      derived = g.file (subst (AreDecls ts ds) hk.rest hd.0) (subst (IsRel s2.rest hq.tree) hend.1 hq.derived);
      spent = ap (λ s. s.budget) hend.0 ∙ hq.spent ∙ ap (λ n. spend n (nodes hq.tree)) started;
      same = λ le. hq.same (subst (λ s. 0 < s.budget) hend.0 le);
    })))))
