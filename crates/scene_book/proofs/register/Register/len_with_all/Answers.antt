use Rattle.std.proofs.Common.{◌≤◌, ap, length, arith}
use Rattle.std.proofs.lemmas.List.{drop_all}
use Rattle.scene_book.proofs.ListLemmas.{absent, length-put_all}
use Rattle.scene_book.proofs.register.Register.len_with_all.Goals as goal

pub returns : goal.returns
returns g c =
    let all : length c.args.news.now ≤ c.loop-new.new-index = omega (arith, c.loop-new-test.false) in
    omega (
      arith,
      ap (λ l. absent g.T.Named.slot.name_of l c.args.self.now) (drop_all c.loop-new.new-index c.args.news.now all),
      c.loop-new.invariant.so_far,
      length-put_all g.T.Named.slot.name_of c.args.news.now c.args.self.now c.requires.apart,
    )
