use Rattle.std.proofs.Common.{◌≡◌, true, false, Some, length, sym, ◌∙◌, subst}
use Rattle.std.proofs.lemmas.Result.{IfOk-weaker, IfErr-weaker}
use Rattle.castor_tokens.specs.Cut.{AreInOrder, AreSpansInOrder}
use Rattle.castor_tokens.specs.Tokens.{tokens_of}
use Rattle.castor_parse.specs.Lexemes.{lexemes}
use Rattle.castor_parse.specs.Limits.{are_within_limits}
use Rattle.castor_parse.specs.Parsed.{AreTokens, IsRead, IsUnread, IsRefused, by_tokens}
use Rattle.castor_parse.proofs.FileLaws.{one_tree, refused, ordered}
use Rattle.castor_parse.proofs.query.parse.Goals as goal

pub returns-in-Err-Memory-clause-one : goal.returns-in-Err-Memory-clause-one
returns-in-Err-Memory-clause-one c = one_tree c.args.text.now

pub returns-else-not-are_within_limits-clause-one : goal.returns-else-not-are_within_limits-clause-one
returns-else-not-are_within_limits-clause-one c = one_tree c.args.text.now

pub returns-then-not-are_within_limits-clause-err : goal.returns-then-not-are_within_limits-clause-err
returns-then-not-are_within_limits-clause-err c =
    let text = c.args.text.now in
    let items = c.in-Ok-tokens.tokens.items in
    let is_text = c.in-Ok.ensures.cases.0 in
    let cut_text = c.as_bytes.ensures.value ∙ is_text in
    let limit_text = c.as_bytes-in-Ok-tokens.ensures.value ∙ is_text in
    let cut : tokens_of text ≡ Some items = subst (λ z. tokens_of z ≡ Some items) cut_text c.in-Ok-tokens.ensures.ok in
    let past : are_within_limits (lexemes text items) ≡ false = (λ i. are_within_limits (lexemes (sym limit_text i) (sym c.as_slice.ensures.value i))) ∙ sym c.are_within_limits.ensures ∙ c.if-not-are_within_limits.true in
    by_tokens items c.if-text-gt-MAX_SOURCE_BYTES.false c.in-Ok.ensures.cases.1 cut past

pub returns-else-not-are_within_limits-clause-err : goal.returns-else-not-are_within_limits-clause-err
returns-else-not-are_within_limits-clause-err c =
    let text = c.args.text.now in
    let items = c.in-Ok-tokens.tokens.items in
    let is_text = c.in-Ok.ensures.cases.0 in
    let cut_text = c.as_bytes.ensures.value ∙ is_text in
    let limit_text = c.as_bytes-in-Ok-tokens.ensures.value ∙ is_text in
    let cut : tokens_of text ≡ Some items = subst (λ z. tokens_of z ≡ Some items) cut_text c.in-Ok-tokens.ensures.ok in
    let within : are_within_limits (lexemes text items) ≡ true = (λ i. are_within_limits (lexemes (sym limit_text i) (sym c.as_slice.ensures.value i))) ∙ sym c.are_within_limits.ensures ∙ c.if-not-are_within_limits.false in
    let tokens : AreTokens text items = record { short = c.if-text-gt-MAX_SOURCE_BYTES.false; utf8 = c.in-Ok.ensures.cases.1; cut = cut; within = within } in
    IfErr-weaker c.file.result (IsUnread c.in-Ok.text.now c.as_slice-in-Ok-tokens.result.now) (IsRefused text) (λ y h. refused text items y tokens (subst (λ ts. IsUnread text ts y) c.as_slice-in-Ok-tokens.ensures.value (subst (λ z. IsUnread z c.as_slice-in-Ok-tokens.result.now y) is_text h))) c.file.ensures.err

pub returns-else-not-are_within_limits-clause-order : goal.returns-else-not-are_within_limits-clause-order
returns-else-not-are_within_limits-clause-order c =
    let text = c.args.text.now in
    let items = c.in-Ok-tokens.tokens.items in
    let slice = c.as_slice-in-Ok-tokens.result.now in
    let cut_text = c.as_bytes.ensures.value ∙ c.in-Ok.ensures.cases.0 in
    let order : AreInOrder 0 (length text) items = subst (λ z. AreInOrder 0 (length z) items) cut_text c.in-Ok-tokens.ensures.order in
    IfOk-weaker c.file.result (IsRead c.in-Ok.text.now slice) (λ f. AreSpansInOrder 0 (length text) f.tokens) (λ f h. ordered (length text) slice f (subst (AreInOrder 0 (length text)) (sym c.as_slice-in-Ok-tokens.ensures.value) order) h.spans) c.file.ensures.ok
