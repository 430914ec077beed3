-- A seat follows itself, and what follows a follower follows.
use Rattle.std.proofs.Common.{◌≡◌, true, [], ◌++◌}
use Rattle.std.proofs.lemmas.List.Elements.{All-nil, All-append}
use Rattle.map_lock.specs.Seats.{BoardSeat}
use Rattle.map_lock.specs.Working.{Follows, is_work}
use Rattle.map_lock.specs.Acting.{acted-none, acted-more}

pub follows-itself : (seat : BoardSeat) → Follows seat seat
follows-itself seat = record { own = []; acted = acted-none seat; kinds = All-nil (λ e. is_work e.call ≡ true) }

pub follows-through : (first second third : BoardSeat) → Follows first second → Follows second third
    → Follows first third
follows-through first second third a b = record {
  own = a.own ++ b.own;
  acted = acted-more first second third a.own b.own a.acted b.acted;
  kinds = All-append (λ e. is_work e.call ≡ true) a.own b.own a.kinds b.kinds;
}
