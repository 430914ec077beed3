use Rattle.std.proofs.Common.{◌<◌, ◌/◌, true, length, set, arith, ap, ◌∙◌}
use Rattle.std.proofs.lemmas.List.{get_or_read}
use Rattle.part_grid.proofs.Bits.{mark-more, mark-past, with-mark-is}
use Rattle.part_grid.proofs.numbers.marks.Marks.mark.Goals as goal

pub returns-then-number-self : goal.returns-then-number-self
returns-then-number-self c =
    let words = c.self.inside.words.items in
    let below : c.args.number / 64 < length words = omega (arith, c.self.invariant.room, c.if-number-self.true) in
    let word = get_or_read words (c.args.number / 64) c.index_mut.result.now below c.index_mut.ensures.value 0 in
    mark-more words c.self.inside.count c.args.number c.index_mut.result.now c.self.invariant.room c.if-number-self.true word ∙ ap (λ marks. set marks c.args.number true) c.self.view_is

pub returns-else-number-self : goal.returns-else-number-self
returns-else-number-self c = rw (← c.self.view_is) (mark-past c.self.inside.words.items c.self.inside.count c.args.number c.if-number-self.false)

pub invariant_of-self : goal.invariant_of-self
invariant_of-self c =
    let words = c.self.inside.words.items in
    let below : c.args.number / 64 < length words = omega (arith, c.self.invariant.room, c.if-number-self.true) in
    let word = get_or_read words (c.args.number / 64) c.index_mut.result.now below c.index_mut.ensures.value 0 in
    with-mark-is words c.self.inside.count c.args.number c.index_mut.result.now c.self.invariant c.if-number-self.true word
