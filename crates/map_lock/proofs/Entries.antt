-- What one entry more adds to what a seat's own entries say.
use Rattle.std.proofs.Common.{◌≡◌, ℕ, List, [], ◌∷◌, ◌++◌, refl, ap, ◌∙◌}
use Rattle.std.specs.Prelude.{Option}
use Rattle.map_board.specs.Views.{Job, Answer}
use Rattle.map_board.specs.Seats.{Entries, owed_after, owed_from, owed}
use Rattle.receiver_workers.specs.declared.calls.SeatCall.{SeatCall}
use Rattle.map_lock.specs.Seats.{BoardEntry, counts_after, counts_from, counts_seen}
use Rattle.map_lock.specs.Working.{seat_call, last_from, last_call}

owed-from-snoc : (jobs : List Job) (mine : Entries) (e : BoardEntry)
    → owed_from jobs (mine ++ e ∷ []) ≡ owed_after (owed_from jobs mine) e.call e.reply
owed-from-snoc jobs [] e = refl
owed-from-snoc jobs (x ∷ xs) e = owed-from-snoc (owed_after jobs x.call x.reply) xs e

pub owed-snoc : (mine after : Entries) (e : BoardEntry) → after ≡ mine ++ e ∷ []
    → owed after ≡ owed_after (owed mine) e.call e.reply
owed-snoc mine after e is = ap owed is ∙ owed-from-snoc [] mine e

counts-from-snoc : (counts : List ℕ) (mine : Entries) (e : BoardEntry)
    → counts_from counts (mine ++ e ∷ []) ≡ counts_after (counts_from counts mine) e.reply
counts-from-snoc counts [] e = refl
counts-from-snoc counts (x ∷ xs) e = counts-from-snoc (counts_after counts x.reply) xs e

pub counts-snoc : (mine after : Entries) (e : BoardEntry) → after ≡ mine ++ e ∷ []
    → counts_seen after ≡ counts_after (counts_seen mine) e.reply
counts-snoc mine after e is = ap counts_seen is ∙ counts-from-snoc (0 ∷ 0 ∷ 0 ∷ 0 ∷ []) mine e

last-from-snoc : (last : Option (SeatCall Job Answer)) (mine : Entries) (e : BoardEntry)
    → last_from last (mine ++ e ∷ []) ≡ seat_call e.call e.reply
last-from-snoc last [] e = refl
last-from-snoc last (x ∷ xs) e = last-from-snoc (seat_call x.call x.reply) xs e

pub last-snoc : (mine after : Entries) (e : BoardEntry) → after ≡ mine ++ e ∷ []
    → last_call after ≡ seat_call e.call e.reply
last-snoc mine after e is = ap last_call is ∙ last-from-snoc _ mine e
