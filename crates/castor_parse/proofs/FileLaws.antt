-- The parser reads a file exactly where the grammar derives one, and that one.
use Rattle.std.proofs.Common.{◌≡◌, ℕ, ◌+◌, ◌≤◌, ◌<◌, true, ◌&&◌, List, [], length, Some, None, sym, ap, ◌∙◌, subst, arith}
use Rattle.std.specs.Prelude.{nat_le, map, All}
use Rattle.std.specs.List.{list_all}
use Rattle.castor_tokens.specs.declared.token.Token.{Token}
use Rattle.castor_tree.specs.declared.tree.Decl.{Decl}
use Rattle.castor_tree.specs.declared.tree.File.{File}
use Rattle.castor_tree.specs.declared.tree.PRel.{PRel}
use Rattle.castor_parse.specs.declared.query.ParseError.{ParseError}
use Rattle.castor_parse.specs.declared.query.ParseError.TheVariants as refusal
use Rattle.castor_tokens.specs.Tokens.{Bytes}
use Rattle.castor_parse.specs.Lexemes.{Lexemes, lexemes}
use Rattle.castor_tokens.specs.Cut.{Stands, AreInOrder, AreSpansInOrder}
use Rattle.castor_tree.specs.Formed.{IsFormed}
use Rattle.castor_parse.specs.Limits.{is_short, are_few_open, are_few_nots, are_within_limits}
use Rattle.castor_parse.specs.Grammar.{IsFile}
use Rattle.castor_tree.specs.Sizes.{nodes, depth}
use Rattle.castor_parse.specs.Parser.{State, at, node_budget, spend, read_file}
use Rattle.castor_parse.specs.Parsed.{AreTokens, IsSmallFile, IsLarge, IsRead, IsUnread, IsRefused, by_tree, by_grammar, HasOneTree}
use Rattle.castor_tokens.proofs.TokenLaws.{spans_in_order}
use Rattle.castor_parse.proofs.Outcomes.{same_pair}
use Rattle.castor_parse.proofs.Past.{and_first, and_second}
use Rattle.castor_parse.proofs.SoundFile.{FileRead, file_reads}
use Rattle.castor_parse.proofs.CompleteFile.{file_done}
use Rattle.castor_parse.proofs.FormedLaws.{tokens_good, file_formed}

-- within the limits, few parentheses are open
pub few_open : (ts : Lexemes) → are_within_limits ts ≡ true → are_few_open 0 ts ≡ true
few_open ts h = and_first (are_few_open 0 ts) (are_few_nots 0 ts) (and_second (list_all is_short ts) (are_few_open 0 ts && are_few_nots 0 ts) (and_second (nat_le (length ts) 65536) (list_all is_short ts && (are_few_open 0 ts && are_few_nots 0 ts)) h))

-- what was read is derived, and its nodes are spent
pub read_is : (ts : Lexemes) (ds : List Decl) (q : PRel) (st : State) → read_file (at ts node_budget) ≡ Some ((ds, q), st) → FileRead node_budget ts (ds, q) st
read_is ts ds q st e = (file_reads node_budget (omega arith) ts).holds (ds, q) st e

-- some of the budget is left exactly where the nodes are few
pub few_nodes : (c n : ℕ) → c ≡ spend node_budget n → 0 < c → n ≤ 4096
few_nodes c n h some = omega (arith, h, some)

pub some_left : (c n : ℕ) → c ≡ spend node_budget n → n ≤ 4096 → 0 < c
some_left c n h few = omega (arith, h, few)

none_some : {A : Type 0} (x : A) → None ≡ Some x → ⊥
none_some x e = cc

-- where nothing was read nothing is derived
pub unread_is : (ts : Lexemes) → are_within_limits ts ≡ true → read_file (at ts node_budget) ≡ None → (ds : List Decl) (q : PRel) → IsFile ts ds q → ⊥
unread_is ts within none ds q d = let done = file_done node_budget (omega arith) d (few_open ts within) in none_some _ (sym none ∙ done.is)

-- a budget of the nodes of both trees, and one more, is enough for each
enough : (n m c : ℕ) → c ≡ spend (n + m + 1) n → 0 < c
enough n m c h = omega (arith, h)

enough_too : (n m c : ℕ) → c ≡ spend (n + m + 1) m → 0 < c
enough_too n m c h = omega (arith, h)

-- two derivations come to one tree: what a parser with a budget for both of them reads
pub one_tree : (text : Bytes) → HasOneTree text
one_tree text ts ds es p q tokens d f =
    let few = few_open (lexemes text ts) tokens.within in
    let x = file_done (nodes p + nodes q + 1) (omega arith) d few in
    let y = file_done (nodes p + nodes q + 1) (omega arith) f few in
    let same = same_pair ((ds, x.made), at [] x.left) ((es, y.made), at [] y.left) (sym x.is ∙ y.is) in
    (ap (λ s. s.0.0) same, sym (x.same (enough (nodes p) (nodes q) x.left x.spent)) ∙ ap (λ s. s.0.1) same ∙ y.same (enough_too (nodes p) (nodes q) y.left y.spent))

-- a file that was read, and isn't too large
pub read_file_is : (text : Bytes) (ts : List Token) (ds : List Decl) (q : PRel) (st : State) (file : File) → read_file (at (lexemes text ts) node_budget) ≡ Some ((ds, q), st) → IsSmallFile ts st.budget ds q file → IsRead text ts file
read_file_is text ts ds q st file e small =
    let h = read_is (lexemes text ts) ds q st e in
    let same : q ≡ h.query = h.same small.some_left in
    record {
      spans = small.spans;
      derived = rw (small.decls, small.query) (subst (λ p. IsFile (lexemes text ts) ds p) (sym same) h.derived);
      small = rw small.query (record { nodes = few_nodes st.budget (nodes q) (h.spent ∙ ap (λ p. spend node_budget (nodes p)) (sym same)) small.some_left; depth = small.shallow });
    }

-- a file that was read, and is too large
pub read_file_large : (text : Bytes) (ts : List Token) (ds : List Decl) (q : PRel) (st : State) → read_file (at (lexemes text ts) node_budget) ≡ Some ((ds, q), st) → ((0 < st.budget) × (depth q ≤ 64) → ⊥) → IsUnread text ts refusal.TooLarge
read_file_large text ts ds q st e large =
    let h = read_is (lexemes text ts) ds q st e in (
      ds,
      h.query,
      h.derived,
      λ small.
          let some : 0 < st.budget = some_left st.budget (nodes h.query) h.spent small.nodes in
          large (some, subst (λ p. depth p ≤ 64) (sym (h.same some)) small.depth),
    )

pub unread_large : (text : Bytes) (ts : List Token) (ds : List Decl) (q : PRel) (st : State) (y : ParseError) → read_file (at (lexemes text ts) node_budget) ≡ Some ((ds, q), st) → IsLarge st.budget q y → IsUnread text ts y
unread_large text ts ds q st refusal.TooLarge e h = read_file_large text ts ds q st e h
unread_large text ts ds q st refusal.NotUtf8 e h = absurd h
unread_large text ts ds q st (refusal.Syntax place) e h = absurd h
unread_large text ts ds q st refusal.Memory e h = tt

-- why the tokens of a text make no file is why the text is refused
pub refused : (text : Bytes) (ts : List Token) (y : ParseError) → AreTokens text ts → IsUnread text ts y → IsRefused text y
refused text ts refusal.TooLarge tokens h = by_tree ts h.0 h.1 tokens h.2 h.3
refused text ts refusal.NotUtf8 tokens h = absurd h
refused text ts (refusal.Syntax place) tokens h = (by_grammar ts tokens h.0, h.1)
refused text ts refusal.Memory tokens h = tt

short_tokens : (ts : Lexemes) → are_within_limits ts ≡ true → list_all is_short ts ≡ true
short_tokens ts h = and_first (list_all is_short ts) (are_few_open 0 ts && are_few_nots 0 ts) (and_second (nat_le (length ts) 65536) (list_all is_short ts && (are_few_open 0 ts && are_few_nots 0 ts)) h)

-- the file of tokens within the limits is formed
pub read_formed : (text : Bytes) (ts : List Token) (file : File) → All (Stands text) ts → are_within_limits (lexemes text ts) ≡ true → IsRead text ts file → IsFormed file
read_formed text ts file stand within h =
    let good = tokens_good text ts stand (short_tokens (lexemes text ts) within) in
    let formed = file_formed h.derived good in
    record { decls = formed.0; query = formed.1; small = h.small }

-- the spans of a file of tokens in order are in order
pub ordered : (end : ℕ) (ts : List Token) (file : File) → AreInOrder 0 end ts → file.tokens ≡ map (λ t. t.span) ts → AreSpansInOrder 0 end file.tokens
ordered end ts file h is = subst (AreSpansInOrder 0 end) (sym is) (spans_in_order ts 0 end h)
