-- What the parser reads, rule by rule. The laws of the parser say that it reads what the grammar derives.
-- The parser has a budget of nodes. Where none of it is left the parser goes on reading, and puts an empty
-- tree in the place of each node.
use Rattle.std.specs.Prelude.{◌≡◌, ℕ, zero, suc, ◌+◌, ◌-◌, pos, ◌-ℤ◌, Bool, true, false, if◌then◌else◌, nat_lt, nat_le, List, [], ◌∷◌, ◌++◌, length, drop, Option, Some, None, Result, Ok, Err}
use denote.Enum.Bare.{sameb}
use Rattle.castor_val.specs.Limits.{most_query_nodes}
use Rattle.castor_val.specs.declared.value.Ty.{Ty}
use Rattle.castor_val.specs.declared.value.Ty.TheVariants as ty
use Rattle.castor_val.specs.declared.value.Value.TheVariants as value
use Rattle.castor_alg.specs.declared.expr.Op.{Op}
use Rattle.castor_alg.specs.declared.expr.Op.TheVariants as op
use Rattle.castor_tokens.specs.contracts.token.Keyword as keywords
use Rattle.castor_tokens.specs.contracts.token.Symbol as symbols
use Rattle.castor_tokens.specs.declared.token.Keyword.{Keyword}
use Rattle.castor_tokens.specs.declared.token.Keyword.TheVariants as word
use Rattle.castor_tokens.specs.declared.token.Symbol.{Symbol}
use Rattle.castor_tokens.specs.declared.token.Symbol.TheVariants as sign
use Rattle.castor_tokens.specs.declared.token.Kind.{Kind}
use Rattle.castor_tokens.specs.declared.token.Kind.TheVariants as kind
use Rattle.castor_parse.specs.declared.parser.Stop.{Stop}
use Rattle.castor_parse.specs.declared.parser.Stop.TheVariants as stop
use Rattle.castor_tree.specs.declared.tree.Word.{Word}
use Rattle.castor_tree.specs.declared.tree.Decl.{Decl}
use Rattle.castor_tree.specs.declared.tree.Decl.TheVariants as decl
use Rattle.castor_tree.specs.declared.tree.PCol.{PCol}
use Rattle.castor_tree.specs.declared.tree.PCol.TheVariants as col
use Rattle.castor_tree.specs.declared.tree.PExpr.{PExpr}
use Rattle.castor_tree.specs.declared.tree.PExpr.TheVariants as e
use Rattle.castor_tree.specs.declared.tree.Item.{Item}
use Rattle.castor_tree.specs.declared.tree.PAgg.{PAgg}
use Rattle.castor_tree.specs.declared.tree.PAgg.TheVariants as agg
use Rattle.castor_tree.specs.declared.tree.PBound.{PBound}
use Rattle.castor_tree.specs.declared.tree.PBound.TheVariants as bound
use Rattle.castor_tree.specs.declared.tree.PRel.{PRel}
use Rattle.castor_tree.specs.declared.tree.PRel.TheVariants as r
use Rattle.castor_tokens.specs.Tokens.{Bytes}
use Rattle.castor_parse.specs.Lexemes.{Lexeme, name, int, text, keyword, symbol, Lexemes}

-- where the parser is: the lexemes that are left, and what is left of its budget of nodes
pub record State : Type 0 where
  pub rest : Lexemes
  pub budget : ℕ

abbrev pub at : Lexemes → ℕ → State
at ts n = record { rest = ts; budget = n }

-- One more than the number of nodes that a tree has at most: the nodes that are made are shown where some of the
-- budget is left behind them.
abbrev pub node_budget : ℕ
node_budget = most_query_nodes + 1

-- what k nodes leave of a budget
abbrev pub spend : ℕ → ℕ → ℕ
spend n k = n - k

-- ---- parsers

abbrev pub Outcome : Type 0 → Type 0
Outcome A = Option (A × State)

abbrev pub Parser : Type 0 → Type 0
Parser A = State → Outcome A

abbrev pub and_then : {A B : Type 0} → Outcome A → (A → Parser B) → Outcome B
and_then None f = None
and_then (Some p) f = f p.0 p.1

infixl 10 ◌>>=◌
abbrev pub ◌>>=◌ : {A B : Type 0} → Parser A → (A → Parser B) → Parser B
p >>= f = λ st. and_then (p st) f

infixl 10 ◌>>◌
abbrev pub ◌>>◌ : {A B : Type 0} → Parser A → Parser B → Parser B
p >> q = p >>= (λ _. q)

abbrev pub pure : {A : Type 0} → A → Parser A
pure a = λ st. Some (a, st)

abbrev pub refuse : {A : Type 0} → Parser A
refuse = λ st. None

-- what a method of the parser gives, unless memory runs out: the parser's outcome
abbrev pub Reads : {A : Type 0} → Outcome A → Result A Stop → State → Type 0
Reads outcome (Ok x) new = outcome ≡ Some (x, new)
Reads outcome (Err stop.Syntax) new = outcome ≡ None
Reads outcome (Err stop.Memory) new = Unit {0}

-- ---- the next token

abbrev pub kind_of : Lexeme → Kind
kind_of (name w) = kind.Name
kind_of (int n) = kind.Int
kind_of (text z) = kind.Text
kind_of (keyword k) = kind.Keyword k
kind_of (symbol s) = kind.Symbol s

abbrev pub first_kind : Lexemes → Option Kind
first_kind [] = None
first_kind (t ∷ ts) = Some (kind_of t)

abbrev pub peek : Parser (Option Kind)
peek = λ st. Some (first_kind st.rest, st)

abbrev pub advanced : State → State
advanced st = record st { rest = drop 1 st.rest }

-- passes a token, whatever it is
abbrev pub advance : Parser (Unit {0})
advance = λ st. Some (tt, advanced st)

-- `==` on reserved words and on symbols
abbrev pub same_keyword : Keyword → Keyword → Bool
same_keyword = sameb keywords.the_type

abbrev pub same_symbol : Symbol → Symbol → Bool
same_symbol = sameb symbols.the_type

abbrev pub is_keyword : Keyword → Option Kind → Bool
is_keyword k None = false
is_keyword k (Some kind.Name) = false
is_keyword k (Some kind.Int) = false
is_keyword k (Some kind.Text) = false
is_keyword k (Some (kind.Keyword j)) = same_keyword j k
is_keyword k (Some (kind.Symbol s)) = false

abbrev pub is_symbol : Symbol → Option Kind → Bool
is_symbol s None = false
is_symbol s (Some kind.Name) = false
is_symbol s (Some kind.Int) = false
is_symbol s (Some kind.Text) = false
is_symbol s (Some (kind.Keyword k)) = false
is_symbol s (Some (kind.Symbol t)) = same_symbol t s

-- passes this reserved word, where it comes next
unfoldable pub eat_keyword : Keyword → Parser Bool
eat_keyword k = λ st. if is_keyword k (first_kind st.rest) then Some (true, advanced st) else Some (false, st)

-- passes this symbol, where it comes next
unfoldable pub eat_symbol : Symbol → Parser Bool
eat_symbol s = λ st. if is_symbol s (first_kind st.rest) then Some (true, advanced st) else Some (false, st)

unfoldable pub expect_keyword : Keyword → Parser (Unit {0})
expect_keyword k = λ st. if is_keyword k (first_kind st.rest) then Some (tt, advanced st) else None

unfoldable pub expect_symbol : Symbol → Parser (Unit {0})
expect_symbol s = λ st. if is_symbol s (first_kind st.rest) then Some (tt, advanced st) else None

abbrev pub name_at : Lexemes → ℕ → Outcome Word
name_at (name w ∷ ts) n = Some (w, at ts n)
name_at _ n = None

unfoldable pub read_name : Parser Word
read_name = λ st. name_at st.rest st.budget

abbrev pub int_at : ℕ → Lexemes → ℕ → Outcome ℕ
int_at limit (int k ∷ ts) n = if nat_le k limit then Some (k, at ts n) else None
int_at limit _ n = None

-- an int of at most this much
unfoldable pub read_int : ℕ → Parser ℕ
read_int limit = λ st. int_at limit st.rest st.budget

abbrev pub text_at : Lexemes → ℕ → Outcome Bytes
text_at (text z ∷ ts) n = Some (z, at ts n)
text_at _ n = None

unfoldable pub read_text : Parser Bytes
read_text = λ st. text_at st.rest st.budget

-- ---- nodes

-- the tree where some of the budget is left, and else the empty one
abbrev pub shown : {A : Type 0} → A → A → ℕ → A
shown empty x n = if nat_lt 0 n then x else empty

-- one more node
unfoldable pub node : {A : Type 0} → A → A → Parser A
node empty x = λ st. Some (shown empty x (spend st.budget 1), at st.rest (spend st.budget 1))

abbrev pub empty_expr : PExpr
empty_expr = e.Lit ty.Bool (value.Bool false)

abbrev pub empty_rel : PRel
empty_rel = r.Cross []

abbrev pub expr_node : PExpr → Parser PExpr
expr_node x = node empty_expr x

abbrev pub rel_node : PRel → Parser PRel
rel_node x = node empty_rel x

-- what a rule reads, and then this symbol
unfoldable pub followed : {A : Type 0} → Parser A → Symbol → Parser A
followed p s = p >>= (λ x. expect_symbol s >> pure x)

-- ---- lists. The number bounds the turns of a loop; each turn passes a token, so the count of tokens is enough.

abbrev pub on_comma : {A : Type 0} → Bool → Parser A → List A → (List A → Parser (List A)) → Parser (List A)
on_comma false item found go_on = pure found
on_comma true item found go_on = item >>= (λ x. go_on (found ++ x ∷ []))

unfoldable pub separated_from : {A : Type 0} → Parser A → ℕ → List A → Parser (List A)
separated_from item zero found = pure found
separated_from item (suc n) found = eat_symbol sign.Comma >>= (λ more. on_comma more item found (separated_from item n))

-- one or more, with commas between
unfoldable pub separated : {A : Type 0} → Parser A → Parser (List A)
separated item = item >>= (λ x. λ st. separated_from item (length st.rest) (x ∷ []) st)

-- ---- columns, and names after `as`

abbrev pub dotted : Bool → Word → Parser PCol
dotted false w = pure (col.Name w)
dotted true w = read_name >>= (λ v. pure (col.Dotted w v))

-- the greatest number of a column
abbrev pub column_limit : ℕ
column_limit = 4294967295

unfoldable pub col_number : Parser PCol
col_number = advance >> read_int column_limit >>= (λ n. pure (col.Number n))

unfoldable pub col_name : Parser PCol
col_name = read_name >>= (λ w. eat_symbol sign.Dot >>= (λ is_dotted. dotted is_dotted w))

abbrev pub col_by : Option Kind → Parser PCol
col_by (Some (kind.Symbol sign.Hash)) = col_number
col_by _ = col_name

unfoldable pub read_col : Parser PCol
read_col = peek >>= col_by

abbrev pub alias_by : Bool → Parser (Option Word)
alias_by false = pure None
alias_by true = read_name >>= (λ w. pure (Some w))

unfoldable pub read_alias : Parser (Option Word)
read_alias = eat_keyword word.As >>= alias_by

-- ---- expressions

abbrev pub or_operator : Option Kind → Option Op
or_operator (Some (kind.Keyword word.Or)) = Some op.Or
or_operator _ = None

abbrev pub and_operator : Option Kind → Option Op
and_operator (Some (kind.Keyword word.And)) = Some op.And
and_operator _ = None

abbrev pub comparison : Option Kind → Option Op
comparison (Some (kind.Symbol sign.Eq)) = Some op.Eq
comparison (Some (kind.Symbol sign.Ne)) = Some op.Ne
comparison (Some (kind.Symbol sign.Lt)) = Some op.Lt
comparison (Some (kind.Symbol sign.Le)) = Some op.Le
comparison (Some (kind.Symbol sign.Gt)) = Some op.Gt
comparison (Some (kind.Symbol sign.Ge)) = Some op.Ge
comparison _ = None

abbrev pub sum_operator : Option Kind → Option Op
sum_operator (Some (kind.Symbol sign.Plus)) = Some op.Add
sum_operator (Some (kind.Symbol sign.Minus)) = Some op.Sub
sum_operator _ = None

abbrev pub term_operator : Option Kind → Option Op
term_operator (Some (kind.Symbol sign.Star)) = Some op.Mul
term_operator (Some (kind.Symbol sign.Slash)) = Some op.Div
term_operator (Some (kind.Symbol sign.Percent)) = Some op.Rem
term_operator _ = None

-- one turn of a chain: where an operator comes next, the part after it, and the turns after that
abbrev pub chain_turn : Option Op → Parser PExpr → (PExpr → Parser PExpr) → PExpr → Parser PExpr
chain_turn None next go_on left = pure left
chain_turn (Some o) next go_on left = advance >> next >>= (λ right. expr_node (e.Bin o left right) >>= go_on)

-- a chain from its left part on, in at most this many turns
unfoldable pub chain_from : (Option Kind → Option Op) → Parser PExpr → ℕ → PExpr → Parser PExpr
chain_from operator next zero left = pure left
chain_from operator next (suc n) left = λ st. chain_turn (operator (first_kind st.rest)) next (chain_from operator next n) left st

unfoldable pub chain : (Option Kind → Option Op) → Parser PExpr → Parser PExpr
chain operator next = next >>= (λ left. λ st. chain_from operator next (length st.rest) left st)

-- how many `not` come next
abbrev pub leading_nots : Lexemes → ℕ
leading_nots [] = 0
leading_nots (t ∷ ts) = if is_keyword word.Not (Some (kind_of t)) then suc (leading_nots ts) else 0

unfoldable pub read_nots : Parser ℕ
read_nots = λ st. Some (leading_nots st.rest, record st { rest = drop (leading_nots st.rest) st.rest })

-- this many `not` around a tree
unfoldable pub negated : ℕ → PExpr → Parser PExpr
negated zero a = pure a
negated (suc n) a = expr_node (e.Not a) >>= negated n

abbrev pub compared : Option Op → Parser PExpr → PExpr → Parser PExpr
compared None next left = pure left
compared (Some o) next left = advance >> next >>= (λ right. expr_node (e.Bin o left right))

abbrev pub int_limit : ℕ
int_limit = 9223372036854775807

unfoldable pub int_literal : Parser PExpr
int_literal = read_int int_limit >>= (λ n. expr_node (e.Lit ty.Int (value.Int (pos n))))

unfoldable pub negative_literal : Parser PExpr
negative_literal = advance >> read_int (int_limit + 1) >>= (λ n. expr_node (e.Lit ty.Int (value.Int (pos 0 -ℤ pos n))))

unfoldable pub text_literal : Parser PExpr
text_literal = read_text >>= (λ z. expr_node (e.Lit ty.Text (value.Text z)))

unfoldable pub truth_literal : Bool → Parser PExpr
truth_literal b = advance >> expr_node (e.Lit ty.Bool (value.Bool b))

unfoldable pub read_param : Parser PExpr
read_param = advance >> read_name >>= (λ w. expr_node (e.Param w))

unfoldable pub numbered_col : Parser PExpr
numbered_col = col_number >>= (λ c. expr_node (e.Col c))

-- what stands behind a name and a dot
abbrev pub member_by : Option Kind → Word → Parser PExpr
member_by (Some kind.Int) w = read_int column_limit >>= (λ n. expr_node (e.ScopeAt w n))
member_by _ w = read_name >>= (λ v. expr_node (e.Col (col.Dotted w v)))

abbrev pub named_by : Bool → Word → Parser PExpr
named_by false w = expr_node (e.Col (col.Name w))
named_by true w = peek >>= (λ k. member_by k w)

unfoldable pub named : Parser PExpr
named = read_name >>= (λ w. eat_symbol sign.Dot >>= (λ is_dotted. named_by is_dotted w))

-- each rule takes what reads an expression inside
module _ (inner : Parser PExpr) where
  -- behind the word `if`
  unfoldable pub read_if : Parser PExpr
  read_if = do
    advance
    expect_symbol sign.OpenParen
    c ← inner
    expect_symbol sign.Comma
    a ← inner
    expect_symbol sign.Comma
    b ← inner
    expect_symbol sign.CloseParen
    expr_node (e.If c a b)

  unfoldable pub parenthesized : Parser PExpr
  parenthesized = do
    advance
    a ← inner
    expect_symbol sign.CloseParen
    pure a

  abbrev pub prim_by : Option Kind → Parser PExpr
  prim_by (Some kind.Int) = int_literal
  prim_by (Some kind.Text) = text_literal
  prim_by (Some kind.Name) = named
  prim_by (Some (kind.Keyword word.True)) = truth_literal true
  prim_by (Some (kind.Keyword word.False)) = truth_literal false
  prim_by (Some (kind.Keyword word.If)) = read_if
  prim_by (Some (kind.Symbol sign.Minus)) = negative_literal
  prim_by (Some (kind.Symbol sign.Dollar)) = read_param
  prim_by (Some (kind.Symbol sign.Hash)) = numbered_col
  prim_by (Some (kind.Symbol sign.OpenParen)) = parenthesized
  prim_by _ = refuse

  unfoldable pub read_prim : Parser PExpr
  read_prim = peek >>= prim_by

  unfoldable pub read_term : Parser PExpr
  read_term = chain term_operator read_prim

  unfoldable pub read_sum : Parser PExpr
  read_sum = chain sum_operator read_term

  unfoldable pub read_cmp : Parser PExpr
  read_cmp = read_sum >>= (λ left. λ st. compared (comparison (first_kind st.rest)) read_sum left st)

  unfoldable pub read_not : Parser PExpr
  read_not = read_nots >>= (λ n. read_cmp >>= (λ a. negated n a))

  unfoldable pub read_and : Parser PExpr
  read_and = chain and_operator read_not

  unfoldable pub read_or : Parser PExpr
  read_or = chain or_operator read_and

-- an expression in which this many parentheses may open inside one another, and one more level
unfoldable pub expr_at : ℕ → Parser PExpr
expr_at zero = refuse
expr_at (suc n) = read_or (expr_at n)

-- ---- the parts of relations

module _ (expr : Parser PExpr) where
  unfoldable pub read_item : Parser Item
  read_item = expr >>= (λ a. read_alias >>= (λ called. pure (record { expr = a; name = called })))

  abbrev pub lower_by : Option Kind → Parser PBound
  lower_by (Some (kind.Keyword word.Any)) = advance >> pure bound.Any
  lower_by (Some (kind.Symbol sign.Ge)) = advance >> expr >>= (λ a. pure (bound.Incl a))
  lower_by (Some (kind.Symbol sign.Gt)) = advance >> expr >>= (λ a. pure (bound.Excl a))
  lower_by _ = refuse

  unfoldable pub read_lower : Parser PBound
  read_lower = peek >>= lower_by

  abbrev pub upper_by : Option Kind → Parser PBound
  upper_by (Some (kind.Keyword word.Any)) = advance >> pure bound.Any
  upper_by (Some (kind.Symbol sign.Le)) = advance >> expr >>= (λ a. pure (bound.Incl a))
  upper_by (Some (kind.Symbol sign.Lt)) = advance >> expr >>= (λ a. pure (bound.Excl a))
  upper_by _ = refuse

  unfoldable pub read_upper : Parser PBound
  read_upper = peek >>= upper_by

-- a column in parentheses, behind the word of an aggregate
unfoldable pub aggregated : Parser PCol
aggregated = do
  advance
  expect_symbol sign.OpenParen
  c ← read_col
  expect_symbol sign.CloseParen
  pure c

unfoldable pub read_count : Parser PAgg
read_count = do
  advance
  expect_symbol sign.OpenParen
  expect_symbol sign.CloseParen
  pure agg.Count

abbrev pub aggregate_by : Option Kind → Parser PAgg
aggregate_by (Some (kind.Keyword word.Count)) = read_count
aggregate_by (Some (kind.Keyword word.Sum)) = aggregated >>= (λ c. pure (agg.Sum c))
aggregate_by (Some (kind.Keyword word.Min)) = aggregated >>= (λ c. pure (agg.Min c))
aggregate_by (Some (kind.Keyword word.Max)) = aggregated >>= (λ c. pure (agg.Max c))
aggregate_by _ = refuse

unfoldable pub read_aggregate : Parser PAgg
read_aggregate = peek >>= aggregate_by

unfoldable pub read_agg : Parser (PAgg × Option Word)
read_agg = read_aggregate >>= (λ a. read_alias >>= (λ called. pure (a, called)))

abbrev pub falls_by : Option Kind → Parser Bool
falls_by (Some (kind.Keyword word.Asc)) = advance >> pure false
falls_by (Some (kind.Keyword word.Desc)) = advance >> pure true
falls_by _ = pure false

unfoldable pub read_key : Parser (PCol × Bool)
read_key = read_col >>= (λ c. peek >>= (λ k. falls_by k >>= (λ falls. pure (c, falls))))

-- one or more in brackets
unfoldable pub bracketed : {A : Type 0} → Parser A → Parser (List A)
bracketed item = expect_symbol sign.OpenBracket >> followed (separated item) sign.CloseBracket

abbrev pub maybe_by : {A : Type 0} → Bool → Parser A → Parser (List A)
maybe_by true item = pure []
maybe_by false item = followed (separated item) sign.CloseBracket

-- none, or one or more, in brackets
unfoldable pub maybe_bracketed : {A : Type 0} → Parser A → Parser (List A)
maybe_bracketed item = do
  expect_symbol sign.OpenBracket
  is_empty ← eat_symbol sign.CloseBracket
  maybe_by is_empty item

-- ---- relations

unfoldable pub read_table_name : Parser PRel
read_table_name = read_name >>= (λ w. rel_node (r.Table w))

-- a word that an operator begins with
abbrev pub begins_rel : Keyword → Bool
begins_rel word.Scalar = true
begins_rel word.Cross = true
begins_rel word.Concat = true
begins_rel word.Select = true
begins_rel word.Filter = true
begins_rel word.Join = true
begins_rel word.Depjoin = true
begins_rel word.List = true
begins_rel word.Hash = true
begins_rel word.Ordered = true
begins_rel word.Groupby = true
begins_rel word.Orderby = true
begins_rel word.Dedup = true
begins_rel k = false

-- each rule takes what reads a relation and an expression inside
module _ (rel : Parser PRel) (expr : Parser PExpr) where
  -- rel "as" NAME ","
  unfoldable pub read_source : Parser (PRel × Word)
  read_source = do
    p ← rel
    expect_keyword word.As
    k ← read_name
    expect_symbol sign.Comma
    pure (p, k)

  -- the rules below stand behind the word and the opening parenthesis, and pass the closing one

  unfoldable pub read_scalar : Parser PRel
  read_scalar = do
    i ← followed (read_item expr) sign.CloseParen
    rel_node (r.Scalar i)

  unfoldable pub read_rels : Parser (List PRel)
  read_rels = followed (separated rel) sign.CloseParen

  unfoldable pub read_select : Parser PRel
  read_select = do
    is ← followed (bracketed (read_item expr)) sign.Comma
    p ← followed rel sign.CloseParen
    rel_node (r.Select is p)

  unfoldable pub read_filter : Parser PRel
  read_filter = do
    a ← followed expr sign.Comma
    p ← followed rel sign.CloseParen
    rel_node (r.Filter a p)

  unfoldable pub read_join : Parser PRel
  read_join = do
    a ← followed expr sign.Comma
    p ← followed rel sign.Comma
    q ← followed rel sign.CloseParen
    rel_node (r.Join a p q)

  unfoldable pub read_binder : Parser (Word × PRel × PRel)
  read_binder = do
    source ← read_source
    q ← followed rel sign.CloseParen
    pure (source.1, source.0, q)

  unfoldable pub read_hash : Parser PRel
  read_hash = do
    source ← read_source
    q ← followed rel sign.Comma
    keys ← followed (bracketed expr) sign.CloseParen
    rel_node (r.Hash source.1 source.0 q keys)

  unfoldable pub read_ordered : Parser PRel
  read_ordered = do
    source ← read_source
    q ← followed rel sign.Comma
    lo ← followed (read_lower expr) sign.Comma
    hi ← followed (read_upper expr) sign.CloseParen
    rel_node (r.Ord source.1 source.0 q lo hi)

  unfoldable pub read_groupby : Parser PRel
  read_groupby = do
    keys ← followed (maybe_bracketed read_col) sign.Comma
    aggs ← followed (maybe_bracketed read_agg) sign.Comma
    p ← followed rel sign.CloseParen
    rel_node (r.Group keys aggs p)

  unfoldable pub read_orderby : Parser PRel
  read_orderby = do
    keys ← followed (bracketed read_key) sign.Comma
    p ← followed rel sign.CloseParen
    rel_node (r.Order keys p)

  unfoldable pub read_dedup : Parser PRel
  read_dedup = do
    p ← followed rel sign.CloseParen
    rel_node (r.Dedup p)

  -- the operators with one operand, which stands last
  abbrev pub unary_by : Keyword → Parser PRel
  unary_by word.Select = read_select
  unary_by word.Filter = read_filter
  unary_by word.Groupby = read_groupby
  unary_by word.Orderby = read_orderby
  unary_by word.Dedup = read_dedup
  unary_by _ = refuse

  abbrev pub rel_by : Keyword → Parser PRel
  rel_by word.Scalar = read_scalar
  rel_by word.Cross = read_rels >>= (λ ps. rel_node (r.Cross ps))
  rel_by word.Concat = read_rels >>= (λ ps. rel_node (r.Concat ps))
  rel_by word.Join = read_join
  rel_by word.Depjoin = read_binder >>= (λ b. rel_node (r.DepJoin b.0 b.1 b.2))
  rel_by word.List = read_binder >>= (λ b. rel_node (r.List b.0 b.1 b.2))
  rel_by word.Hash = read_hash
  rel_by word.Ordered = read_ordered
  rel_by k = unary_by k

  abbrev pub behind_word : Bool → Parser PRel → Parser PRel
  behind_word true operator = advance >> expect_symbol sign.OpenParen >> operator
  behind_word false operator = refuse

  abbrev pub read_rel_by : Option Kind → Parser PRel
  read_rel_by (Some kind.Name) = read_table_name
  read_rel_by (Some (kind.Keyword k)) = behind_word (begins_rel k) (rel_by k)
  read_rel_by _ = refuse

  unfoldable pub read_rel : Parser PRel
  read_rel = peek >>= read_rel_by

-- a relation in which this many parentheses may open inside one another, and one more level
unfoldable pub rel_at : ℕ → Parser PRel
rel_at zero = refuse
rel_at (suc n) = read_rel (rel_at n) (expr_at n)

-- ---- files

abbrev pub type_by : Option Kind → Parser Ty
type_by (Some (kind.Keyword word.Int)) = advance >> pure ty.Int
type_by (Some (kind.Keyword word.Bool)) = advance >> pure ty.Bool
type_by (Some (kind.Keyword word.Text)) = advance >> pure ty.Text
type_by _ = refuse

unfoldable pub read_type : Parser Ty
read_type = peek >>= type_by

unfoldable pub read_column : Parser (Word × Ty)
read_column = read_name >>= (λ w. read_type >>= (λ t. pure (w, t)))

unfoldable pub read_table : Parser Decl
read_table = do
  advance
  w ← read_name
  expect_symbol sign.OpenParen
  cs ← followed (separated read_column) sign.CloseParen
  expect_symbol sign.Semicolon
  pure (decl.Table w cs)

unfoldable pub read_param_decl : Parser Decl
read_param_decl = do
  advance
  w ← read_name
  t ← read_type
  expect_symbol sign.Semicolon
  pure (decl.Param w t)

-- the declarations from these on, in at most this many turns
abbrev pub decls_by : Option Kind → List Decl → (List Decl → Parser (List Decl)) → Parser (List Decl)
decls_by (Some (kind.Keyword word.Table)) found go_on = read_table >>= (λ d. go_on (found ++ d ∷ []))
decls_by (Some (kind.Keyword word.Param)) found go_on = read_param_decl >>= (λ d. go_on (found ++ d ∷ []))
decls_by _ found go_on = pure found

unfoldable pub decls_from : ℕ → List Decl → Parser (List Decl)
decls_from zero found = pure found
decls_from (suc n) found = peek >>= (λ k. decls_by k found (decls_from n))

unfoldable pub read_decls : Parser (List Decl)
read_decls = λ st. decls_from (length st.rest) [] st

-- how deep parentheses nest at most
abbrev pub nesting : ℕ
nesting = 257

abbrev pub end_of : Lexemes → Bool
end_of [] = true
end_of (t ∷ ts) = false

unfoldable pub read_end : Parser (Unit {0})
read_end = λ st. if end_of st.rest then Some (tt, st) else None

unfoldable pub read_file : Parser (List Decl × PRel)
read_file = do
  ds ← read_decls
  expect_keyword word.Query
  q ← rel_at nesting
  read_end
  pure (ds, q)
