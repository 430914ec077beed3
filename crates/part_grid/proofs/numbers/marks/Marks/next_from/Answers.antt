use Rattle.std.proofs.Common.{◌≡◌, ◌/◌, ◌%◌, ◌^◌, ◌<◌, length, arith, ap}
use Rattle.std.proofs.lemmas.List.{get_or_read}
use Rattle.part_grid.proofs.Bits.{first-none, first-next, next-here, next-later, none-here, none-later, marks-length}
use Rattle.part_grid.proofs.numbers.marks.Marks.next_from.Goals as goal

pub returns-then-number-self : goal.returns-then-number-self
returns-then-number-self c =
    let words = c.self.inside.words.items in let count = c.self.inside.count in
    let all : c.args.number ≡ count = omega (arith, c.requires, c.if-number-self.true, ap length c.self.view_is, marks-length words count) in
    let first = first-none words count c.args.number c.args.self.now c.self.view_is (omega arith) (λ k from below. absurd (omega arith)) in
    record { from = first.from; within = first.within; unmarked = first.unmarked; marked = first.marked }

pub overflow_add-number : goal.overflow_add-number
overflow_add-number c =
    let words = c.self.inside.words.items in
    let below : c.args.number / 64 < length words = omega (arith, c.self.invariant.room, c.if-number-self.false) in
    let word = get_or_read words (c.args.number / 64) c.index-word.result.now below c.index-word.ensures 0 in
    let next = next-here words c.args.number (c.index-word.result.now / 2 ^ (c.args.number % 64)) (c.self.invariant.fits (c.args.number / 64)) (ap (λ w. w / 2 ^ (c.args.number % 64)) word) c.if-left-ne0.true in
    omega (arith, next.0)

pub returns-then-left-ne0 : goal.returns-then-left-ne0
returns-then-left-ne0 c =
    let words = c.self.inside.words.items in
    let below : c.args.number / 64 < length words = omega (arith, c.self.invariant.room, c.if-number-self.false) in
    let word = get_or_read words (c.args.number / 64) c.index-word.result.now below c.index-word.ensures 0 in
    let next = next-here words c.args.number (c.index-word.result.now / 2 ^ (c.args.number % 64)) (c.self.invariant.fits (c.args.number / 64)) (ap (λ w. w / 2 ^ (c.args.number % 64)) word) c.if-left-ne0.true in
    let first = first-next words c.self.inside.count c.args.number _ c.min.result c.args.self.now c.self.view_is c.if-number-self.false next.1 c.min.ensures in
    record { from = first.from; within = first.within; unmarked = first.unmarked; marked = first.marked }

pub loop-place-init : goal.loop-place-init
loop-place-init c = λ k from less.
    let words = c.self.inside.words.items in
    let below : c.args.number / 64 < length words = omega (arith, c.self.invariant.room, c.if-number-self.false) in
    let word = get_or_read words (c.args.number / 64) c.index-word.result.now below c.index-word.ensures 0 in
    none-here words c.args.number (c.index-word.result.now / 2 ^ (c.args.number % 64)) k (ap (λ w. w / 2 ^ (c.args.number % 64)) word) c.if-left-ne0.false from less

pub loop-place-preserved : goal.loop-place-preserved
loop-place-preserved c = λ k from less.
    let words = c.self.inside.words.items in
    let below : c.loop-place.place < length words = omega (arith, c.self.invariant.room, c.loop-place-test.true, c.if-number-self.false) in
    let word = get_or_read words c.loop-place.place c.index-word-in-loop-place.result.now below c.index-word-in-loop-place.ensures 0 in
    none-later words c.args.number c.loop-place.place c.index-word-in-loop-place.result.now k word c.if-word-ne0.false c.loop-place.invariant from less

pub returns-then-word-ne0 : goal.returns-then-word-ne0
returns-then-word-ne0 c =
    let words = c.self.inside.words.items in
    let below : c.loop-place.place < length words = omega (arith, c.self.invariant.room, c.loop-place-test.true, c.if-number-self.false) in
    let word = get_or_read words c.loop-place.place c.index-word-in-loop-place.result.now below c.index-word-in-loop-place.ensures 0 in
    let fits : c.index-word-in-loop-place.result.now < 2 ^ 64 = rw word (c.self.invariant.fits c.loop-place.place) in
    let next = next-later words c.args.number c.loop-place.place c.index-word-in-loop-place.result.now fits word c.if-word-ne0.true (omega (arith, c.loop-place.auto.place)) c.loop-place.invariant in
    let first = first-next words c.self.inside.count c.args.number _ c.min-then-word-ne0.result c.args.self.now c.self.view_is c.if-number-self.false next c.min-then-word-ne0.ensures in
    record { from = first.from; within = first.within; unmarked = first.unmarked; marked = first.marked }

pub returns : goal.returns
returns c =
    let words = c.self.inside.words.items in let count = c.self.inside.count in
    let first = first-none words count c.args.number c.args.self.now c.self.view_is (omega (arith, c.if-number-self.false)) (λ k from below. c.loop-place.invariant k from (omega (arith, c.loop-place-test.false))) in
    record { from = first.from; within = first.within; unmarked = first.unmarked; marked = first.marked }
