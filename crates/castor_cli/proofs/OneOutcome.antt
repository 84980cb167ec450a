-- That a text says one thing, and that an image is built or opened, or is refused.
use Rattle.std.proofs.Common.{◌≡◌, ◌∙◌, ℕ, List, map, Bool, true, false, Option, Some, None, Result, Ok, Err, inl, inr, refl, sym, ap, subst, arith}
use Rattle.castor_base.specs.Files.{Files}
use Rattle.castor_parse.specs.declared.query.ParseError.{ParseError}
use Rattle.castor_parse.specs.declared.query.ParseError.TheVariants as parse
use Rattle.castor_tokens.specs.declared.token.Token.{Token}
use Rattle.castor_tree.specs.declared.tree.File.{File}
use Rattle.castor_parse.specs.Grammar.{IsFile}
use Rattle.castor_parse.specs.Lexemes.{lexemes}
use Rattle.castor_parse.specs.Limits.{are_within_limits}
use Rattle.castor_parse.specs.Parsed.{HasSyntaxFault, IsParsed, IsTooLarge, by_bytes, by_cut, by_grammar, by_tokens, by_tree}
use Rattle.castor_tokens.specs.Tokens.{tokens_of}
use Rattle.castor_parse.proofs.FileLaws.{one_tree}
use Rattle.castor_schema.specs.declared.checked.Checked.{Checked}
use Rattle.castor_names.specs.declared.error.SchemaError.{SchemaError}
use Rattle.castor_names.specs.declared.error.SchemaError.TheVariants as schema
use Rattle.castor_schema.specs.Check.{checked}
use Rattle.castor_cli.specs.declared.command.Command.{Command}
use Rattle.castor_cli.specs.declared.command.Command.TheVariants.{Answer, Build, Ask, Show, Code, Sample}
use Rattle.castor_image.specs.Images.{Content, IsImageOf}
use Rattle.castor_cli.specs.declared.status.QueryFault.TheVariants as fault
use Rattle.castor_cli.specs.declared.status.Status.{Status}
use Rattle.castor_cli.specs.declared.status.Status.TheVariants as status
use Rattle.castor_cli.specs.Commands.{command_of, word}
use Rattle.castor_cli.specs.Opening.{IsImageIn, IsOpened}
use Rattle.castor_cli.specs.Outcome.{IsStarted, IsStartedBy}
use Rattle.castor_cli.specs.Preparation.{IsBuilt, Says, with_query}
use Rattle.castor_cli.specs.Query.{ChecksTo, IsQuery, IsUnchecked, IsUnparsed}

same_tokens : (text : List ℕ) (ts us : List Token) → tokens_of text ≡ Some ts → tokens_of text ≡ Some us → ts ≡ us
same_tokens text ts us a b = let f : ◌≡◌ {A = Option (List Token)} (Some ts) (Some us) = sym a ∙ b in cc f

file_of_parts : (f g : File) → f.tokens ≡ g.tokens → f.decls ≡ g.decls → f.query ≡ g.query → f ≡ g
file_of_parts f g ts ds q =
    let same : ◌≡◌ {A = File} (record { tokens = f.tokens; decls = f.decls; query = f.query }) (record { tokens = g.tokens; decls = g.decls; query = g.query }) = rw (ts, ds, q) refl in same

same_trees : (text : List ℕ) (f g : File) (a : IsParsed text f) (b : IsParsed text g) → a.tokens ≡ b.tokens → f ≡ g
same_trees text f g a b same =
    let derived = subst (λ (ts : List Token). IsFile (lexemes text ts) g.decls g.query) (sym same) b.derived in
    let one = one_tree text a.tokens f.decls g.decls f.query g.query a.are_tokens a.derived derived in
    file_of_parts f g (a.spans ∙ ap (λ (ts : List Token). map (λ t. t.span) ts) same ∙ sym b.spans) one.0 one.1

-- a text is parsed to one file
pub one_file : (text : List ℕ) (f g : File) → IsParsed text f → IsParsed text g → f ≡ g
one_file text f g a b = same_trees text f g a b (same_tokens text a.tokens b.tokens a.are_tokens.cut b.are_tokens.cut)

-- ---- a text that is parsed isn't refused

true_not_false : (b : Bool) → b ≡ true → b ≡ false → ⊥
true_not_false b is isnt = let f : true ≡ false = sym is ∙ isnt in cc f

not_too_large : (text : List ℕ) (file : File) → IsParsed text file → IsTooLarge text → ⊥
not_too_large text file p (by_bytes long) = omega (arith, long, p.are_tokens.short)
not_too_large text file p (by_tokens ts short utf8 cut within) =
    true_not_false (are_within_limits (lexemes text ts)) (rw (same_tokens text ts p.tokens cut p.are_tokens.cut) p.are_tokens.within) within
not_too_large text file p (by_tree ts decls query are_tokens derived large) =
    let same = same_tokens text ts p.tokens are_tokens.cut p.are_tokens.cut in
    let own = subst (λ (us : List Token). IsFile (lexemes text us) decls query) same derived in
    let one = one_tree text p.tokens file.decls decls file.query query p.are_tokens p.derived own in
    large (rw (sym one.1) p.small)

no_syntax_fault : (text : List ℕ) (file : File) → IsParsed text file → HasSyntaxFault text → ⊥
no_syntax_fault text file p (by_cut short utf8 none) = let f : ◌≡◌ {A = Option (List Token)} None (Some p.tokens) = sym none ∙ p.are_tokens.cut in cc f
no_syntax_fault text file p (by_grammar ts are_tokens underived) =
    let same = same_tokens text p.tokens ts p.are_tokens.cut are_tokens.cut in
    underived file.decls file.query (subst (λ (us : List Token). IsFile (lexemes text us) file.decls file.query) same p.derived)

parsed_not_refused : (text : List ℕ) (file : File) (why : ParseError) → IsParsed text file → IsUnparsed text why → ⊥
parsed_not_refused text file parse.TooLarge p h = not_too_large text file p h
parsed_not_refused text file parse.NotUtf8 p h = h.1 p.are_tokens.utf8
parsed_not_refused text file (parse.Syntax at) p h = no_syntax_fault text file p h.0
parsed_not_refused text file parse.Memory p h = h

-- ---- a text says one thing

one_check : (text : List ℕ) (a b : Result Checked SchemaError) → ChecksTo text a → ChecksTo text b → a ≡ b
one_check text a b (f, p, is) (g, q, it) = sym is ∙ ap checked (one_file text f g p q) ∙ it

checked_twice : (text : List ℕ) (c : Checked) (why : SchemaError) → ChecksTo text (Ok c) → ChecksTo text (Err why) → ⊥
checked_twice text c why a b = let f : ◌≡◌ {A = Result Checked SchemaError} (Ok c) (Err why) = one_check text (Ok c) (Err why) a b in cc f

checked_not_refused : (text : List ℕ) (c : Checked) (why : SchemaError) → ChecksTo text (Ok c) → IsUnchecked text why → ⊥
checked_not_refused text c schema.Memory a b = b
checked_not_refused text c schema.UnknownTable a b = checked_twice text c _ a b
checked_not_refused text c schema.UnknownColumn a b = checked_twice text c _ a b
checked_not_refused text c schema.UnknownScope a b = checked_twice text c _ a b
checked_not_refused text c schema.UnknownParam a b = checked_twice text c _ a b
checked_not_refused text c schema.Ambiguous a b = checked_twice text c _ a b
checked_not_refused text c schema.DuplicateName a b = checked_twice text c _ a b
checked_not_refused text c schema.TypeMismatch a b = checked_twice text c _ a b
checked_not_refused text c schema.WrongCount a b = checked_twice text c _ a b
checked_not_refused text c schema.TooLarge a b = checked_twice text c _ a b

one_checked : (text : List ℕ) (c d : Checked) → ChecksTo text (Ok c) → ChecksTo text (Ok d) → c ≡ d
one_checked text c d a b = let f : ◌≡◌ {A = Result Checked SchemaError} (Ok c) (Ok d) = one_check text (Ok c) (Ok d) a b in cc f

query_not_refused : (text : List ℕ) (c : Checked) (s : Status) → IsQuery text (Ok c) → IsQuery text (Err s) → ⊥
query_not_refused text c (status.Query (fault.Parse why)) (file, p, is) h = parsed_not_refused text file why p h
query_not_refused text c (status.Query (fault.Schema why)) checks h = checked_not_refused text c why checks h
query_not_refused text c s is h = absurd h

-- ---- what is made ready is one

said_not_refused : (file : Result (List ℕ) Status) (c : Checked) (s : Status) → Says file IsQuery (Ok c) → Says file IsQuery (Err s) → ⊥
said_not_refused (Ok text) c s is h = query_not_refused text c s is h
said_not_refused (Err why) c s is h = let f : ◌≡◌ {A = Result Checked Status} (Ok c) (Err why) = is in cc f

said_once : (file : Result (List ℕ) Status) (c d : Checked) → Says file IsQuery (Ok c) → Says file IsQuery (Ok d) → c ≡ d
said_once (Ok text) c d a b = one_checked text c d a b
said_once (Err why) c d is h = absurd (let f : ◌≡◌ {A = Result Checked Status} (Ok c) (Err why) = is in cc f)

ready_not_refused : (files : Files) (script : List ℕ) (p : Content) (s : Status) (c d : Checked) → c ≡ d → with_query None files script c ≡ Ok p → with_query None files script d ≡ Err s → ⊥
ready_not_refused files script p s c d same is it =
    let f : ◌≡◌ {A = Result Content Status} (Ok p) (Err s) = sym is ∙ ap (λ (x : Checked). with_query None files script x) same ∙ it in cc f

prepared_not_refused : (files : Files) (query script : List ℕ) (p : Content) (s : Status) → IsBuilt None files query script (Ok p) → IsBuilt None files query script (Err s) → ⊥
prepared_not_refused files query script p s (c, says, sound, is) (inl refused) = said_not_refused _ c s says refused
prepared_not_refused files query script p s (c, says, sound, is) (inr (d, too, it)) = ready_not_refused files script p s c d (said_once _ c d says too) is it

image_not_refused : (bytes : List ℕ) (x : Content) (s : Status) → IsImageOf x bytes → IsImageIn bytes (Err s) → ⊥
image_not_refused bytes x status.Image is none = none x is
image_not_refused bytes x s is none = absurd none

opened_in_one_way : (file : Result (List ℕ) Status) (x : Content) (s : Status) → Says file IsImageIn (Ok x) → Says file IsImageIn (Err s) → ⊥
opened_in_one_way (Ok bytes) x s is h = image_not_refused bytes x s is h
opened_in_one_way (Err why) x s is h = let f : ◌≡◌ {A = Result Content Status} (Ok x) (Err why) = is in cc f

ready_is : (x : Content) (s r : Status) → ◌≡◌ {A = Result Content Status} (Ok x) (Err r) → ⊥
ready_is x s r is = cc is

started_by_not_refused : (command : Option Command) (files : Files) (query script image : List ℕ) (x : Content) (s : Status) → IsStartedBy command (IsBuilt None files query script) (IsOpened None files image) (Ok x)
    → IsStartedBy command (IsBuilt None files query script) (IsOpened None files image) (Err s) → ⊥
started_by_not_refused None files query script image x s is h = ready_is x s _ is
started_by_not_refused (Some Answer) files query script image x s is h = prepared_not_refused files query script x s is h
started_by_not_refused (Some Build) files query script image x s is h = prepared_not_refused files query script x s is h
started_by_not_refused (Some Ask) files query script image x s is h = opened_in_one_way _ x s is h
started_by_not_refused (Some Show) files query script image x s is h = ready_is x s _ is
started_by_not_refused (Some Code) files query script image x s is h = ready_is x s _ is
started_by_not_refused (Some Sample) files query script image x s is h = ready_is x s _ is

-- what the words ask for is there or is refused, and not both
pub started_not_refused : (words : List (List ℕ)) (files : Files) (x : Content) (s : Status) → IsStarted words files None (Ok x) → IsStarted words files None (Err s) → ⊥
started_not_refused words files x s is h = started_by_not_refused (command_of words) files (word words 1) (word words 2) (word words 1) x s is h
