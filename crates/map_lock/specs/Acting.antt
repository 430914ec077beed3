-- What a seat does in several calls.
use Rattle.std.proofs.Common.{[], ◌++◌, refl, sym, ap, ◌∙◌, append_assoc}
use Rattle.std.proofs.lemmas.List.{append-nil}
use Rattle.turn_lock.specs.History.{entries_of}
use Rattle.turn_lock.proofs.Histories.{entries_of-append}
use Rattle.map_board.specs.Seats.{Entries}
use Rattle.map_lock.specs.Seats.{BoardSeat}
use Rattle.map_lock.specs.Turns.{HasActed}

pub acted-none : (seat : BoardSeat) → HasActed seat [] seat
acted-none seat = record {
  between = [];
  seen = sym (append-nil seat.seen);
  own_are = refl;
  mine = sym (append-nil seat.mine);
  table = refl;
  number = refl;
  parts = refl;
  joined = refl;
}

abbrev pub acted-more : (first second third : BoardSeat) (xs ys : Entries) → HasActed first xs second
    → HasActed second ys third → HasActed first (xs ++ ys) third
acted-more first second third xs ys a b = record {
  between = a.between ++ b.between;
  seen = b.seen ∙ (ap (λ l. l ++ b.between) a.seen ∙ append_assoc first.seen a.between b.between);
  own_are =
      entries_of-append first.number a.between b.between
      ∙ (ap (λ l. l ++ entries_of first.number b.between) a.own_are
      ∙ ap (λ l. xs ++ l) (ap (λ n. entries_of n b.between) (sym a.number) ∙ b.own_are));
  mine = b.mine ∙ (ap (λ l. l ++ ys) a.mine ∙ append_assoc first.mine xs ys);
  table = b.table ∙ a.table;
  number = b.number ∙ a.number;
  parts = b.parts ∙ a.parts;
  joined = b.joined ∙ a.joined;
}
