-- The grammar of query files, one constructor for each production. A rule relates the lexemes before it, the
-- tree that it derives from the first of them, and the lexemes after it.
use Rattle.std.specs.Prelude.{ℕ, ◌<◌, ◌≤◌, ◌^◌, pos, ◌-ℤ◌, Bool, true, false, Option, Some, None, List, [], ◌∷◌}
use Rattle.castor_val.specs.declared.value.Ty.{Ty}
use Rattle.castor_val.specs.declared.value.Ty.TheVariants as ty
use Rattle.castor_val.specs.declared.value.Value.TheVariants as value
use Rattle.castor_alg.specs.declared.expr.Op.{Op}
use Rattle.castor_alg.specs.declared.expr.Op.TheVariants as op
use Rattle.castor_tokens.specs.declared.token.Keyword.TheVariants as word
use Rattle.castor_tokens.specs.declared.token.Symbol.TheVariants as sign
use Rattle.castor_tree.specs.declared.tree.Word.{Word}
use Rattle.castor_tree.specs.declared.tree.Decl.{Decl}
use Rattle.castor_tree.specs.declared.tree.Decl.TheVariants as decl
use Rattle.castor_tree.specs.declared.tree.PCol.{PCol}
use Rattle.castor_tree.specs.declared.tree.PCol.TheVariants as col
use Rattle.castor_tree.specs.declared.tree.PExpr.{PExpr}
use Rattle.castor_tree.specs.declared.tree.PExpr.TheVariants as e
use Rattle.castor_tree.specs.declared.tree.Item.{Item}
use Rattle.castor_tree.specs.declared.tree.PAgg.{PAgg}
use Rattle.castor_tree.specs.declared.tree.PAgg.TheVariants as agg
use Rattle.castor_tree.specs.declared.tree.PBound.{PBound}
use Rattle.castor_tree.specs.declared.tree.PBound.TheVariants as bound
use Rattle.castor_tree.specs.declared.tree.PRel.{PRel}
use Rattle.castor_tree.specs.declared.tree.PRel.TheVariants as r
use Rattle.castor_parse.specs.Lexemes.{Lexeme, name, int, text, keyword, symbol, Lexemes}

abbrev pub comma : Lexeme
comma = symbol sign.Comma

abbrev pub semicolon : Lexeme
semicolon = symbol sign.Semicolon

abbrev pub dot : Lexeme
dot = symbol sign.Dot

abbrev pub open_paren : Lexeme
open_paren = symbol sign.OpenParen

abbrev pub close_paren : Lexeme
close_paren = symbol sign.CloseParen

abbrev pub open_bracket : Lexeme
open_bracket = symbol sign.OpenBracket

abbrev pub close_bracket : Lexeme
close_bracket = symbol sign.CloseBracket

-- ---- lists

-- one or more, with commas between
pub data Separated {A : Type 0} (item : Lexemes → A → Lexemes → Type 0) : Lexemes → List A → Lexemes → Type 0 where
  last : {ts us : Lexemes} {x : A} → item ts x us → Separated item ts (x ∷ []) us
  more : {ts us vs : Lexemes} {x : A} {xs : List A} → item ts x (comma ∷ us) → Separated item us xs vs → Separated item ts (x ∷ xs) vs

-- none, or one or more with commas between
pub data MaybeSeparated {A : Type 0} (item : Lexemes → A → Lexemes → Type 0) : Lexemes → List A → Lexemes → Type 0 where
  no_items : {ts : Lexemes} → MaybeSeparated item ts [] ts
  some_items : {ts us : Lexemes} {xs : List A} → Separated item ts xs us → MaybeSeparated item ts xs us

-- ---- columns, and names after `as`

-- col := NAME | NAME "." NAME | "#" INT
pub data IsCol : Lexemes → PCol → Lexemes → Type 0 where
  named : {ts : Lexemes} {w : Word} → IsCol (name w ∷ ts) (col.Name w) ts
  dotted : {ts : Lexemes} {v w : Word} → IsCol (name v ∷ dot ∷ name w ∷ ts) (col.Dotted v w) ts
  numbered : {ts : Lexemes} {n : ℕ} → n < 2 ^ 32 → IsCol (symbol sign.Hash ∷ int n ∷ ts) (col.Number n) ts

-- [ "as" NAME ]
pub data IsAlias : Lexemes → Option Word → Lexemes → Type 0 where
  no_alias : {ts : Lexemes} → IsAlias ts None ts
  alias : {ts : Lexemes} {w : Word} → IsAlias (keyword word.As ∷ name w ∷ ts) (Some w) ts

-- ---- expressions

-- the rules of expressions, the loosest first
pub data Level : Type 0 where
  expr : Level
  and : Level
  not : Level
  cmp : Level
  sum : Level
  term : Level
  prim : Level

-- the comparison that a symbol stands for
pub data Compares : Lexeme → Op → Type 0 where
  eq : Compares (symbol sign.Eq) op.Eq
  ne : Compares (symbol sign.Ne) op.Ne
  lt : Compares (symbol sign.Lt) op.Lt
  le : Compares (symbol sign.Le) op.Le
  gt : Compares (symbol sign.Gt) op.Gt
  ge : Compares (symbol sign.Ge) op.Ge

pub data IsExpr : Level → Lexemes → PExpr → Lexemes → Type 0 where
  -- expr := and { "or" and }, grouped to the left
  expr_and : {ts us : Lexemes} {a : PExpr} → IsExpr and ts a us → IsExpr expr ts a us
  expr_or : {ts us vs : Lexemes} {a b : PExpr} → IsExpr expr ts a (keyword word.Or ∷ us) → IsExpr and us b vs → IsExpr expr ts (e.Bin op.Or a b) vs
  -- and := not { "and" not }, grouped to the left
  and_not : {ts us : Lexemes} {a : PExpr} → IsExpr not ts a us → IsExpr and ts a us
  and_and : {ts us vs : Lexemes} {a b : PExpr} → IsExpr and ts a (keyword word.And ∷ us) → IsExpr not us b vs → IsExpr and ts (e.Bin op.And a b) vs
  -- not := "not" not | cmp
  not_not : {ts us : Lexemes} {a : PExpr} → IsExpr not ts a us → IsExpr not (keyword word.Not ∷ ts) (e.Not a) us
  not_cmp : {ts us : Lexemes} {a : PExpr} → IsExpr cmp ts a us → IsExpr not ts a us
  -- cmp := sum [ ( "=" | "!=" | "<" | "<=" | ">" | ">=" ) sum ]
  cmp_sum : {ts us : Lexemes} {a : PExpr} → IsExpr sum ts a us → IsExpr cmp ts a us
  compares : {ts us vs : Lexemes} {t : Lexeme} {o : Op} {a b : PExpr} → Compares t o → IsExpr sum ts a (t ∷ us) → IsExpr sum us b vs → IsExpr cmp ts (e.Bin o a b) vs
  -- sum := term { ( "+" | "-" ) term }, grouped to the left
  sum_term : {ts us : Lexemes} {a : PExpr} → IsExpr term ts a us → IsExpr sum ts a us
  sum_plus : {ts us vs : Lexemes} {a b : PExpr} → IsExpr sum ts a (symbol sign.Plus ∷ us) → IsExpr term us b vs → IsExpr sum ts (e.Bin op.Add a b) vs
  sum_minus : {ts us vs : Lexemes} {a b : PExpr} → IsExpr sum ts a (symbol sign.Minus ∷ us) → IsExpr term us b vs → IsExpr sum ts (e.Bin op.Sub a b) vs
  -- term := prim { ( "*" | "/" | "%" ) prim }, grouped to the left
  term_prim : {ts us : Lexemes} {a : PExpr} → IsExpr prim ts a us → IsExpr term ts a us
  term_star : {ts us vs : Lexemes} {a b : PExpr} → IsExpr term ts a (symbol sign.Star ∷ us) → IsExpr prim us b vs → IsExpr term ts (e.Bin op.Mul a b) vs
  term_slash : {ts us vs : Lexemes} {a b : PExpr} → IsExpr term ts a (symbol sign.Slash ∷ us) → IsExpr prim us b vs → IsExpr term ts (e.Bin op.Div a b) vs
  term_percent : {ts us vs : Lexemes} {a b : PExpr} → IsExpr term ts a (symbol sign.Percent ∷ us) → IsExpr prim us b vs → IsExpr term ts (e.Bin op.Rem a b) vs
  -- prim := INT | "-" INT | TEXT | "true" | "false" | "$" NAME | col | NAME "." INT
  --       | "if" "(" expr "," expr "," expr ")" | "(" expr ")"
  prim_int : {ts : Lexemes} {n : ℕ} → n < 2 ^ 63 → IsExpr prim (int n ∷ ts) (e.Lit ty.Int (value.Int (pos n))) ts
  prim_negative : {ts : Lexemes} {n : ℕ} → n ≤ 2 ^ 63 → IsExpr prim (symbol sign.Minus ∷ int n ∷ ts) (e.Lit ty.Int (value.Int (pos 0 -ℤ pos n))) ts
  prim_text : {ts : Lexemes} {z : List ℕ} → IsExpr prim (text z ∷ ts) (e.Lit ty.Text (value.Text z)) ts
  prim_true : {ts : Lexemes} → IsExpr prim (keyword word.True ∷ ts) (e.Lit ty.Bool (value.Bool true)) ts
  prim_false : {ts : Lexemes} → IsExpr prim (keyword word.False ∷ ts) (e.Lit ty.Bool (value.Bool false)) ts
  prim_param : {ts : Lexemes} {w : Word} → IsExpr prim (symbol sign.Dollar ∷ name w ∷ ts) (e.Param w) ts
  prim_col : {ts us : Lexemes} {c : PCol} → IsCol ts c us → IsExpr prim ts (e.Col c) us
  prim_scope : {ts : Lexemes} {w : Word} {n : ℕ} → n < 2 ^ 32 → IsExpr prim (name w ∷ dot ∷ int n ∷ ts) (e.ScopeAt w n) ts
  prim_if : {ts us vs ws : Lexemes} {c a b : PExpr} → IsExpr expr ts c (comma ∷ us) → IsExpr expr us a (comma ∷ vs) → IsExpr expr vs b (close_paren ∷ ws) → IsExpr prim (keyword word.If ∷ open_paren ∷ ts) (e.If c a b) ws
  prim_paren : {ts us : Lexemes} {a : PExpr} → IsExpr expr ts a (close_paren ∷ us) → IsExpr prim (open_paren ∷ ts) a us

-- ---- the parts of relations

-- item := expr [ "as" NAME ]
pub data IsItem : Lexemes → Item → Lexemes → Type 0 where
  item : {ts us vs : Lexemes} {a : PExpr} {called : Option Word} → IsExpr expr ts a us → IsAlias us called vs → IsItem ts (record { expr = a; name = called }) vs

-- "count" "(" ")" | ( "sum" | "min" | "max" ) "(" col ")"
pub data IsAggregate : Lexemes → PAgg → Lexemes → Type 0 where
  count : {ts : Lexemes} → IsAggregate (keyword word.Count ∷ open_paren ∷ close_paren ∷ ts) agg.Count ts
  sum_of : {ts us : Lexemes} {c : PCol} → IsCol ts c (close_paren ∷ us) → IsAggregate (keyword word.Sum ∷ open_paren ∷ ts) (agg.Sum c) us
  min_of : {ts us : Lexemes} {c : PCol} → IsCol ts c (close_paren ∷ us) → IsAggregate (keyword word.Min ∷ open_paren ∷ ts) (agg.Min c) us
  max_of : {ts us : Lexemes} {c : PCol} → IsCol ts c (close_paren ∷ us) → IsAggregate (keyword word.Max ∷ open_paren ∷ ts) (agg.Max c) us

-- agg := an aggregate [ "as" NAME ]
pub data IsAgg : Lexemes → PAgg × Option Word → Lexemes → Type 0 where
  aggregate : {ts us vs : Lexemes} {a : PAgg} {called : Option Word} → IsAggregate ts a us → IsAlias us called vs → IsAgg ts (a, called) vs

-- key := col [ "asc" | "desc" ]
pub data IsKey : Lexemes → PCol × Bool → Lexemes → Type 0 where
  rising : {ts us : Lexemes} {c : PCol} → IsCol ts c us → IsKey ts (c, false) us
  asc : {ts us : Lexemes} {c : PCol} → IsCol ts c (keyword word.Asc ∷ us) → IsKey ts (c, false) us
  desc : {ts us : Lexemes} {c : PCol} → IsCol ts c (keyword word.Desc ∷ us) → IsKey ts (c, true) us

-- lower := "any" | ">=" expr | ">" expr
pub data IsLower : Lexemes → PBound → Lexemes → Type 0 where
  any_lower : {ts : Lexemes} → IsLower (keyword word.Any ∷ ts) bound.Any ts
  from : {ts us : Lexemes} {a : PExpr} → IsExpr expr ts a us → IsLower (symbol sign.Ge ∷ ts) (bound.Incl a) us
  above : {ts us : Lexemes} {a : PExpr} → IsExpr expr ts a us → IsLower (symbol sign.Gt ∷ ts) (bound.Excl a) us

-- upper := "any" | "<=" expr | "<" expr
pub data IsUpper : Lexemes → PBound → Lexemes → Type 0 where
  any_upper : {ts : Lexemes} → IsUpper (keyword word.Any ∷ ts) bound.Any ts
  up_to : {ts us : Lexemes} {a : PExpr} → IsExpr expr ts a us → IsUpper (symbol sign.Le ∷ ts) (bound.Incl a) us
  below : {ts us : Lexemes} {a : PExpr} → IsExpr expr ts a us → IsUpper (symbol sign.Lt ∷ ts) (bound.Excl a) us

-- ---- relations

mutual
  pub data IsRel : Lexemes → PRel → Lexemes → Type 0 where
    -- NAME
    table : {ts : Lexemes} {w : Word} → IsRel (name w ∷ ts) (r.Table w) ts
    -- "scalar" "(" item ")"
    scalar : {ts us : Lexemes} {i : Item} → IsItem ts i (close_paren ∷ us) → IsRel (keyword word.Scalar ∷ open_paren ∷ ts) (r.Scalar i) us
    -- "cross" "(" rel { "," rel } ")"
    cross : {ts us : Lexemes} {ps : List PRel} → AreRels ts ps (close_paren ∷ us) → IsRel (keyword word.Cross ∷ open_paren ∷ ts) (r.Cross ps) us
    -- "concat" "(" rel { "," rel } ")"
    concat : {ts us : Lexemes} {ps : List PRel} → AreRels ts ps (close_paren ∷ us) → IsRel (keyword word.Concat ∷ open_paren ∷ ts) (r.Concat ps) us
    -- "select" "(" "[" item { "," item } "]" "," rel ")"
    select : {ts us vs : Lexemes} {is : List Item} {p : PRel} → Separated IsItem ts is (close_bracket ∷ comma ∷ us) → IsRel us p (close_paren ∷ vs) → IsRel (keyword word.Select ∷ open_paren ∷ open_bracket ∷ ts) (r.Select is p) vs
    -- "filter" "(" expr "," rel ")"
    filter : {ts us vs : Lexemes} {a : PExpr} {p : PRel} → IsExpr expr ts a (comma ∷ us) → IsRel us p (close_paren ∷ vs) → IsRel (keyword word.Filter ∷ open_paren ∷ ts) (r.Filter a p) vs
    -- "join" "(" expr "," rel "," rel ")"
    join : {ts us vs ws : Lexemes} {a : PExpr} {p q : PRel} → IsExpr expr ts a (comma ∷ us) → IsRel us p (comma ∷ vs) → IsRel vs q (close_paren ∷ ws) → IsRel (keyword word.Join ∷ open_paren ∷ ts) (r.Join a p q) ws
    -- "depjoin" "(" rel "as" NAME "," rel ")"
    depjoin : {ts us vs : Lexemes} {k : Word} {p q : PRel} → IsRel ts p (keyword word.As ∷ name k ∷ comma ∷ us) → IsRel us q (close_paren ∷ vs) → IsRel (keyword word.Depjoin ∷ open_paren ∷ ts) (r.DepJoin k p q) vs
    -- "list" "(" rel "as" NAME "," rel ")"
    list : {ts us vs : Lexemes} {k : Word} {p q : PRel} → IsRel ts p (keyword word.As ∷ name k ∷ comma ∷ us) → IsRel us q (close_paren ∷ vs) → IsRel (keyword word.List ∷ open_paren ∷ ts) (r.List k p q) vs
    -- "hash" "(" rel "as" NAME "," rel "," "[" expr { "," expr } "]" ")"
    hash : {ts us vs ws : Lexemes} {k : Word} {p q : PRel} {keys : List PExpr} → IsRel ts p (keyword word.As ∷ name k ∷ comma ∷ us) → IsRel us q (comma ∷ open_bracket ∷ vs) → Separated (IsExpr expr) vs keys (close_bracket ∷ close_paren ∷ ws) → IsRel (keyword word.Hash ∷ open_paren ∷ ts) (r.Hash k p q keys) ws
    -- "ordered" "(" rel "as" NAME "," rel "," lower "," upper ")"
    ordered : {ts us vs ws xs : Lexemes} {k : Word} {p q : PRel} {lo hi : PBound} → IsRel ts p (keyword word.As ∷ name k ∷ comma ∷ us) → IsRel us q (comma ∷ vs) → IsLower vs lo (comma ∷ ws) → IsUpper ws hi (close_paren ∷ xs) → IsRel (keyword word.Ordered ∷ open_paren ∷ ts) (r.Ord k p q lo hi) xs
    -- "groupby" "(" "[" [ col { "," col } ] "]" "," "[" [ agg { "," agg } ] "]" "," rel ")"
    groupby : {ts us vs ws : Lexemes} {ks : List PCol} {aggs : List (PAgg × Option Word)} {p : PRel} → MaybeSeparated IsCol ts ks (close_bracket ∷ comma ∷ open_bracket ∷ us) → MaybeSeparated IsAgg us aggs (close_bracket ∷ comma ∷ vs) → IsRel vs p (close_paren ∷ ws) → IsRel (keyword word.Groupby ∷ open_paren ∷ open_bracket ∷ ts) (r.Group ks aggs p) ws
    -- "orderby" "(" "[" key { "," key } "]" "," rel ")"
    orderby : {ts us vs : Lexemes} {ks : List (PCol × Bool)} {p : PRel} → Separated IsKey ts ks (close_bracket ∷ comma ∷ us) → IsRel us p (close_paren ∷ vs) → IsRel (keyword word.Orderby ∷ open_paren ∷ open_bracket ∷ ts) (r.Order ks p) vs
    -- "dedup" "(" rel ")"
    dedup : {ts us : Lexemes} {p : PRel} → IsRel ts p (close_paren ∷ us) → IsRel (keyword word.Dedup ∷ open_paren ∷ ts) (r.Dedup p) us

  -- rel { "," rel }
  pub data AreRels : Lexemes → List PRel → Lexemes → Type 0 where
    last_rel : {ts us : Lexemes} {p : PRel} → IsRel ts p us → AreRels ts (p ∷ []) us
    more_rels : {ts us vs : Lexemes} {p : PRel} {ps : List PRel} → IsRel ts p (comma ∷ us) → AreRels us ps vs → AreRels ts (p ∷ ps) vs

-- ---- files

-- type := "int" | "bool" | "text"
pub data IsType : Lexemes → Ty → Lexemes → Type 0 where
  int_type : {ts : Lexemes} → IsType (keyword word.Int ∷ ts) ty.Int ts
  bool_type : {ts : Lexemes} → IsType (keyword word.Bool ∷ ts) ty.Bool ts
  text_type : {ts : Lexemes} → IsType (keyword word.Text ∷ ts) ty.Text ts

-- NAME type
pub data IsColumn : Lexemes → Word × Ty → Lexemes → Type 0 where
  column : {ts us : Lexemes} {w : Word} {t : Ty} → IsType ts t us → IsColumn (name w ∷ ts) (w, t) us

pub data IsDecl : Lexemes → Decl → Lexemes → Type 0 where
  -- table := "table" NAME "(" NAME type { "," NAME type } ")" ";"
  table_decl : {ts us : Lexemes} {w : Word} {cs : List (Word × Ty)} → Separated IsColumn ts cs (close_paren ∷ semicolon ∷ us) → IsDecl (keyword word.Table ∷ name w ∷ open_paren ∷ ts) (decl.Table w cs) us
  -- param := "param" NAME type ";"
  param_decl : {ts us : Lexemes} {w : Word} {t : Ty} → IsType ts t (semicolon ∷ us) → IsDecl (keyword word.Param ∷ name w ∷ ts) (decl.Param w t) us

-- { table | param }
pub data AreDecls : Lexemes → List Decl → Lexemes → Type 0 where
  no_decls : {ts : Lexemes} → AreDecls ts [] ts
  more_decls : {ts us vs : Lexemes} {d : Decl} {ds : List Decl} → IsDecl ts d us → AreDecls us ds vs → AreDecls ts (d ∷ ds) vs

-- file := { table | param } "query" rel
pub data IsFile : Lexemes → List Decl → PRel → Type 0 where
  file : {ts us : Lexemes} {ds : List Decl} {q : PRel} → AreDecls ts ds (keyword word.Query ∷ us) → IsRel us q [] → IsFile ts ds q
