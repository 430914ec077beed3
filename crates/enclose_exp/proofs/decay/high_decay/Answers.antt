use Rattle.std.proofs.Common.{◌∙◌, ap, sym, Some, pos, rules}
use Rattle.std.proofs.lemmas.Int.{to_z-of_z}
use mir.Syntax.{w128}
use mir.Val.{SFits}
use Rattle.enclose_exp.proofs.DecayLaw.{exp_neg_high-within, exp_neg_high-past}
use Rattle.enclose_exp.proofs.decay.high_decay.Goals as goal

pub returns-then-exponent-lt-GREATEST : goal.returns-then-exponent-lt-GREATEST
returns-then-exponent-lt-GREATEST c =
    let value = c.units_of_high.ensures ∙ sym (exp_neg_high-within c.args.exponent c.if-exponent-lt-GREATEST.true) in
    let fits : SFits w128 c.from.result = search rules in
    ap Some (to_z-of_z w128 c.from.result fits ∙ c.from.ensures ∙ ap pos value)

pub returns-else-exponent-lt-GREATEST : goal.returns-else-exponent-lt-GREATEST
returns-else-exponent-lt-GREATEST c = ap (λ n. Some (pos n)) (sym (exp_neg_high-past c.args.exponent c.if-exponent-lt-GREATEST.false))
