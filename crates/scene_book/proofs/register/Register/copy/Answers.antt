use Rattle.std.proofs.Common.{◌≤◌, ◌∙◌, ap, sym, length, arith}
use Rattle.std.proofs.lemmas.List.{drop_all}
use Rattle.scene_book.specs.Lists.{put_all}
use Rattle.scene_book.proofs.ListLemmas.{put_all-apart}
use Rattle.scene_book.proofs.register.Register.copy.Goals as goal

pub returns : goal.returns
returns g c =
    let all : length c.args.self.now ≤ c.loop-thing.thing-index = omega (arith, c.loop-thing-test.false, ap length c.items-thing-items.ensures.value) in
    sym (ap (λ l. put_all g.T.Named.slot.name_of l c.loop-thing.copied) (drop_all c.loop-thing.thing-index c.args.self.now all))
    ∙ c.loop-thing.invariant
    ∙ put_all-apart g.T.Named.slot.name_of c.args.self.now c.items-thing-items.ensures.apart
