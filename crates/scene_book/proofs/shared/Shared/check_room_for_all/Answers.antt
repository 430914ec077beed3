use Rattle.std.proofs.Common.{◌≡◌, [], sym, ◌∙◌, refl, rules}
use Rattle.scene_book.proofs.ListLemmas.{put_all-apart}
use Rattle.scene_book.proofs.shared.Shared.check_room_for_all.Goals as goal

pub returns-in-None-clause-value : goal.returns-in-None-clause-value
returns-in-None-clause-value g c =
    let empty : c.args.self.now ≡ [] = sym c.self.view_is ∙ rw c.in-None.is refl in
    rw (empty, put_all-apart g.T.Named.slot.name_of c.args.news.now c.requires.apart) (search rules)

pub returns-in-None-clause-room : goal.returns-in-None-clause-room
returns-in-None-clause-room g c =
    let empty : c.args.self.now ≡ [] = sym c.self.view_is ∙ rw c.in-None.is refl in
    rw (empty, put_all-apart g.T.Named.slot.name_of c.args.news.now c.requires.apart) (search rules)
