use Rattle.std.proofs.Common.{is_ok, ◌+◌, sym, ap, arith, length-drop}
use Rattle.std.proofs.ResultArms.{chosen}
use Rattle.std.proofs.lemmas.List.{take_rest}
use Rattle.std.proofs.lemmas.List.Elements.{All-nil, All-push}
use Rattle.castor_tokens.proofs.TokenLaws.{after-nil, cut_push, cut_pass, in_order_later, in_order_push, stands_later}
use Rattle.castor_tokens.specs.Tokens.{tokens_of, token_at}
use Rattle.castor_tokens.specs.Cut.{Stands}
use Rattle.castor_tokens.proofs.cut.tokens.Goals as goal

pub cut-init : goal.cut-init
cut-init c = let text = c.args.text.now in rw (c.new-tokens.ensures.items) (record { all = sym (after-nil (tokens_of text)); order = omega arith; stand = All-nil (Stands text); within = omega arith })

pub cut-preserved-in-Blank : goal.cut-preserved-in-Blank
cut-preserved-in-Blank c =
    let text = c.args.text.now in
    let at = c.cut.at in
    let len = c.in-Blank.len in
    let is = rw (take_rest text at) at (sym c.in-Blank.ensures.value) in
    let within = rw (take_rest text at) at c.in-Blank.ensures.within in
    record {
      all = cut_pass text c.cut.tokens.items at len c.cut.invariant.all is within.0 within.1;
      order = in_order_later c.cut.tokens.items 0 at (at + len) c.cut.invariant.order (omega arith);
      stand = c.cut.invariant.stand;
      within = omega (arith, length-drop at text, within.1);
    }

pub cut-preserved : goal.cut-preserved
cut-preserved c =
    let text = c.args.text.now in
    let at = c.cut.at in
    let len = c.in-Token.len in
    let is = rw (take_rest text at) at (sym c.in-Token.ensures.value) in
    let within = rw (take_rest text at) at c.in-Token.ensures.within in
    let pushed = chosen _ _ _ _ c.push.ensures.items (ap is_ok c.in_ok-push-in-Token.was) in
    record {
      all = cut_push text c.cut.tokens.items c.push.new.self.items at len c.in-Token.kind c.cut.invariant.all pushed is within.0 within.1;
      order = rw pushed (in_order_push c.cut.tokens.items 0 at len c.in-Token.kind c.cut.invariant.order within.0);
      stand = rw pushed (All-push (Stands text) c.cut.tokens.items (token_at at c.in-Token.kind len) c.cut.invariant.stand (stands_later text at len c.in-Token.kind (rw (take_rest text at) at c.in-Token.ensures.stands) c.cut.invariant.within));
      within = omega (arith, length-drop at text, within.1);
    }
