use Rattle.std.proofs.Common.{◌≡◌, Some, None, subst, arith}
use Rattle.std.proofs.lemmas.Result.{IfOk-weaker, IfErr-weaker}
use Rattle.castor_parse.specs.Lexemes.{lexemes}
use Rattle.castor_parse.specs.Parser.{at, node_budget, read_file}
use Rattle.castor_tree.specs.Formed.{IsFormed}
use Rattle.castor_parse.specs.Parsed.{IsSmallFile, IsLarge, IsRead, IsUnread}
use Rattle.castor_parse.proofs.FileLaws.{unread_is, read_file_is, read_formed, unread_large}
use Rattle.castor_parse.proofs.query.file.Goals as goal

pub returns-in-Err-Syntax-clause-err : goal.returns-in-Err-Syntax-clause-err
returns-in-Err-Syntax-clause-err c =
    let stopped = rw c.in-Err-Syntax.field-0-is at c.in-Err-Syntax.ensures in
    let none : read_file (at (lexemes c.args.text.now c.args.tokens.now) node_budget) ≡ None = subst (λ st. read_file st ≡ None) c.new-parser.ensures stopped in
    (unread_is (lexemes c.args.text.now c.args.tokens.now) c.requires.within none, omega (arith, c.min-at.ensures))

pub returns-in-Ok-clause-ok : goal.returns-in-Ok-clause-ok
returns-in-Ok-clause-ok c =
    let text = c.args.text.now in
    let tokens = c.args.tokens.now in
    let decls = c.in-Ok.decls in
    let query = c.in-Ok.query in
    let new = c.file.new.self in
    let read : read_file (at (lexemes text tokens) node_budget) ≡ Some ((decls, query), new) = subst (λ st. read_file st ≡ Some ((decls, query), new)) c.new-parser.ensures c.in-Ok.ensures in
    IfOk-weaker c.small_file.result (IsSmallFile tokens c.budget.result decls query) (IsRead text tokens) (λ f h. read_file_is text tokens decls query new f read (subst (λ n. IsSmallFile tokens n decls query f) c.budget.ensures h)) c.small_file.ensures.ok

pub returns-in-Ok-clause-err : goal.returns-in-Ok-clause-err
returns-in-Ok-clause-err c =
    let text = c.args.text.now in
    let tokens = c.args.tokens.now in
    let decls = c.in-Ok.decls in
    let query = c.in-Ok.query in
    let new = c.file.new.self in
    let read : read_file (at (lexemes text tokens) node_budget) ≡ Some ((decls, query), new) = subst (λ st. read_file st ≡ Some ((decls, query), new)) c.new-parser.ensures c.in-Ok.ensures in
    IfErr-weaker c.small_file.result (IsLarge c.budget.result query) (IsUnread text tokens) (λ y h. unread_large text tokens decls query new y read (subst (λ n. IsLarge n query y) c.budget.ensures h)) c.small_file.ensures.err

pub returns-in-Ok-clause-formed : goal.returns-in-Ok-clause-formed
returns-in-Ok-clause-formed c =
    let text = c.args.text.now in
    let tokens = c.args.tokens.now in
    let decls = c.in-Ok.decls in
    let query = c.in-Ok.query in
    let new = c.file.new.self in
    let read : read_file (at (lexemes text tokens) node_budget) ≡ Some ((decls, query), new) = subst (λ st. read_file st ≡ Some ((decls, query), new)) c.new-parser.ensures c.in-Ok.ensures in
    IfOk-weaker c.small_file.result (IsSmallFile tokens c.budget.result decls query) IsFormed (λ f h. read_formed text tokens f c.requires.stand c.requires.within (read_file_is text tokens decls query new f read (subst (λ n. IsSmallFile tokens n decls query f) c.budget.ensures h))) c.small_file.ensures.ok
