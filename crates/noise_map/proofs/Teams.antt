-- The seats of a run: how they are split, and how they come together again.
use Rattle.std.proofs.Common.{◌≡◌, ℕ, ◌+◌, ◌-◌, ◌<◌, ◌≤◌, add-zero, Bool, true, false, cond, List, [], ◌∷◌, ◌++◌, length, flat_map, sum_by, Some, None, refl, sym, ap, ◌∙◌, subst, arith, inl, inr, append_assoc, length-append}
use Rattle.std.specs.Prelude.{Option, All}
use Rattle.std.specs.List.{AllZip}
use Rattle.std.proofs.lemmas.List.{append-nil}
use Rattle.std.proofs.lemmas.List.Sums.{sum_by-cons, sum_by-append}
use Rattle.std.proofs.lemmas.List.Concat.{flat_map-cons, flat_map-append}
use Rattle.std.proofs.lemmas.List.Elements.{All-nil, All-cons, All-append, All-head, All-tail}
use Rattle.atomic_table.specs.Seated.{TableId}
use Rattle.turn_lock.specs.declared.entry.Joined.{Joined}
use Rattle.turn_lock.specs.History.{Begins}
use Rattle.turn_lock.specs.Standing.{all_parts, first_standing, newcomer, taken_in}
use Rattle.turn_lock.proofs.Histories.{begins_self, begins_trans}
use Rattle.receiver_workers.specs.declared.ended.Ended.{Ended}
use Rattle.receiver_workers.specs.declared.ended.Ended.TheVariants as ends
use Rattle.receiver_workers.specs.Working.{HasWorked, Worked}
use Rattle.receiver_workers.specs.declared.calls.Taken.TheVariants as taken
use Rattle.receiver_workers.specs.declared.calls.SeatCall.{SeatCall}
use Rattle.receiver_workers.specs.declared.calls.SeatCall.TheVariants as worker_calls
use Rattle.map_board.specs.declared.calls.BoardCall.{BoardCall}
use Rattle.map_board.specs.declared.calls.BoardCall.TheVariants as calls
use Rattle.map_board.specs.declared.calls.BoardReply.{BoardReply}
use Rattle.map_board.specs.declared.calls.BoardReply.TheVariants as replies
use Rattle.map_board.specs.Views.{Job, Answer}
use Rattle.map_board.specs.Seats.{Entries, owed}
use Rattle.map_lock.specs.Seats.{BoardSeat, BoardEntry, IsEditor}
use Rattle.map_lock.specs.Settling.{is_give_back}
use Rattle.map_lock.specs.Working.{seat_call, last_from, last_call, give_backs, Follows}
use Rattle.noise_map.specs.declared.run.status.Status.{Status}
use Rattle.noise_map.specs.Histories.{HasEnded as WorkerEnded, IsWhole}
use Rattle.noise_map.specs.inner.Teams.{IsFresh, IsBack, IsBeginner, IsGathering, brought, HasJoined, HasJoinedAll}
use Rattle.noise_map.specs.inner.Progress.{HasFinished}
use Rattle.noise_map.proofs.Ways.{is_way-grown}

-- ---- a worker that has ended

-- the last entry of a list
pub record Last (mine : Entries) (call : SeatCall Job Answer) : Type 0 where
  pub front : Entries
  pub last : BoardEntry
  pub is : mine ≡ front ++ last ∷ []
  pub said : seat_call last.call last.reply ≡ Some call

last-of : (from : Option (SeatCall Job Answer)) (e : BoardEntry) (es : Entries) (call : SeatCall Job Answer) → last_from from (e ∷ es) ≡ Some call → Last (e ∷ es) call
last-of from e [] call said = record { front = []; last = e; is = refl; said = said }
last-of from e (x ∷ es) call said =
    let later = last-of (seat_call e.call e.reply) x es call said in
    record { front = e ∷ later.front; last = later.last; is = ap (λ l. e ∷ l) later.is; said = later.said }

last-in : (mine : Entries) (call : SeatCall Job Answer) → last_call mine ≡ Some call → Last mine call
last-in [] call said = absurd (cc said)
last-in (e ∷ es) call said = last-of None e es call said

backs-push : (front : Entries) (e : BoardEntry) → give_backs (front ++ e ∷ []) ≡ give_backs front + cond (is_give_back e.call) 1 0
backs-push front e =
    sum_by-append (λ (x : BoardEntry). cond (is_give_back x.call) 1 0) front (e ∷ [])
    ∙ ap (λ n. give_backs front + n) (sum_by-cons (λ (x : BoardEntry). cond (is_give_back x.call) 1 0) e [] ∙ omega arith)

no-backs : (es : Entries) → give_backs es ≡ 0 → All (λ (e : BoardEntry). is_give_back e.call ≡ false) es
no-backs [] none = All-nil (λ (e : BoardEntry). is_give_back e.call ≡ false)
no-backs (e ∷ es) none =
    let count = sum_by-cons (λ (x : BoardEntry). cond (is_give_back x.call) 1 0) e es in
    All-cons (λ (x : BoardEntry). is_give_back x.call ≡ false) e es (not-back (is_give_back e.call) (give_backs es) (sym count ∙ none)) (no-backs es (omega (arith, none, count)))
  where
    not-back : (test : Bool) (n : ℕ) → cond test 1 0 + n ≡ 0 → test ≡ false
    not-back true n h = absurd (omega arith)
    not-back false n h = refl

gives-back : (call : BoardCall) (reply : BoardReply) (job : Job) → seat_call call reply ≡ Some (worker_calls.GiveBack job) → is_give_back call ≡ true
gives-back (calls.Edit edit) reply job said = cc
gives-back calls.Take (replies.Took took) job said = cc
gives-back calls.Take (replies.Edited result) job said = cc
gives-back calls.Take replies.Done job said = cc
gives-back calls.Take (replies.Landed landed) job said = cc
gives-back calls.Take (replies.Looked result) job said = cc
gives-back calls.Finish reply job said = cc
gives-back (calls.Offer answer) reply job said = cc
gives-back (calls.GiveBack other) reply job said = refl
gives-back calls.Look reply job said = cc

-- it stopped when the board was finished
pub stopped-ended : (mine : Entries) → last_call mine ≡ Some (worker_calls.Take taken.Finished) → give_backs mine ≡ 0 → WorkerEnded mine
stopped-ended mine said none =
    let l = last-in mine (worker_calls.Take taken.Finished) said in
    let count : give_backs l.front + cond (is_give_back l.last.call) 1 0 ≡ 0 = sym (backs-push l.front l.last) ∙ (ap give_backs (sym l.is) ∙ none) in
    record { front = l.front; last = l.last; is = l.is; none_back = no-backs l.front (omega (arith, count)); ends = inl l.said }

-- it gave one job back
pub back-ended : (mine : Entries) (job : Job) → last_call mine ≡ Some (worker_calls.GiveBack job) → give_backs mine ≡ 1 → WorkerEnded mine
back-ended mine job said one =
    let l = last-in mine (worker_calls.GiveBack job) said in
    let back = gives-back l.last.call l.last.reply job l.said in
    let count : give_backs l.front + 1 ≡ 1 =
    ap (λ b. give_backs l.front + cond b 1 0) (sym back) ∙ (sym (backs-push l.front l.last) ∙ (ap give_backs (sym l.is) ∙ one)) in
    record { front = l.front; last = l.last; is = l.is; none_back = no-backs l.front (omega (arith, count)); ends = inr back }

-- ---- all seats together

joined-ended : (lock : TableId) (others : List BoardSeat) → All (IsBack lock) others → All (λ (j : Joined BoardCall BoardReply). WorkerEnded j.mine) (flat_map brought others)
joined-ended lock [] back = All-nil (λ (j : Joined BoardCall BoardReply). WorkerEnded j.mine)
joined-ended lock (seat ∷ others) back =
    let here = All-head (IsBack lock) seat others back in
    let rest = joined-ended lock others (All-tail (IsBack lock) seat others back) in
    subst (All (λ (j : Joined BoardCall BoardReply). WorkerEnded j.mine))
    (sym (flat_map-cons brought seat others ∙ ap (λ (js : List (Joined BoardCall BoardReply)). (record { number = seat.number; mine = seat.mine } ∷ js) ++ flat_map brought others) here.joined))
    (All-cons (λ (j : Joined BoardCall BoardReply). WorkerEnded j.mine) (record { number = seat.number; mine = seat.mine }) (flat_map brought others) here.ended rest)

joined-length : (lock : TableId) (others : List BoardSeat) → All (IsBack lock) others → length (flat_map brought others) ≡ length others
joined-length lock [] back = refl
joined-length lock (seat ∷ others) back =
    let here = All-head (IsBack lock) seat others back in
    let rest = joined-length lock others (All-tail (IsBack lock) seat others back) in
    ap length (flat_map-cons brought seat others ∙ ap (λ (js : List (Joined BoardCall BoardReply)). (record { number = seat.number; mine = seat.mine } ∷ js) ++ flat_map brought others) here.joined)
    ∙ omega (arith, rest)

joined-parts : (lock : TableId) (others : List BoardSeat) → All (IsBack lock) others → sum_by (λ (seat : BoardSeat). seat.parts) others ≡ length others
joined-parts lock [] back = refl
joined-parts lock (seat ∷ others) back =
    let here = All-head (IsBack lock) seat others back in
    let rest = joined-parts lock others (All-tail (IsBack lock) seat others back) in
    sum_by-cons (λ (x : BoardSeat). x.parts) seat others ∙ omega (arith, here.parts, rest)

-- the editor's seat behind a run knows the whole history
pub comes-whole : (lock : TableId) (workers : ℕ) (s : Status) (done : List (List ℕ)) (first seat last : BoardSeat) (others : List BoardSeat)
    → IsBeginner lock workers first → HasFinished s done first seat → All (IsBack lock) others → length others ≡ workers → HasJoined seat others last → IsWhole workers s done last
comes-whole lock workers s done first seat last others begins finished back all joins =
    let joined : last.joined ≡ flat_map brought others =
    joins.joined ∙ ap (λ (js : List (Joined BoardCall BoardReply)). js ++ flat_map brought others) (finished.same.joined ∙ begins.joined) in
    let parts = joined-parts lock others back in
    record {
      sound = joins.sound;
      whole = omega (arith, joins.parts, finished.same.parts, begins.parts, parts, all);
      team = ap length joined ∙ (joined-length lock others back ∙ all);
      ended = subst (All (λ (j : Joined BoardCall BoardReply). WorkerEnded j.mine)) (sym joined) (joined-ended lock others back);
      own = finished.own;
      own_is = joins.mine ∙ finished.own_is;
      way = is_way-grown s seat.seen last.seen done finished.own finished.way joins.seen;
    }

-- ---- a team comes together

pub none-come : (lock : TableId) (count : ℕ) (editor : BoardSeat) → editor ≡ first_standing lock → IsEditor editor → IsGathering lock count editor []
none-come lock count editor is sound = record {
  begins = record {
    sound = sound;
    table = ap (λ (seat : BoardSeat). seat.table) is;
    seen = ap (λ (seat : BoardSeat). seat.seen) is;
    mine = ap (λ (seat : BoardSeat). seat.mine) is;
    joined = ap (λ (seat : BoardSeat). seat.joined) is;
    parts = ap (λ (seat : BoardSeat). seat.parts + 0) is ∙ add-zero all_parts;
  };
  fresh = All-nil (IsFresh lock);
  few = omega arith;
}

pub one-more : (lock : TableId) (count : ℕ) (editor next worker : BoardSeat) (workers : List BoardSeat) → IsGathering lock count editor workers → length workers < count → count ≤ 16
    → worker ≡ newcomer worker.number editor → next ≡ record editor { parts = editor.parts - 1 } → IsEditor next → IsGathering lock count next (workers ++ worker ∷ [])
one-more lock count editor next worker workers so_far more few new rest sound =
    let begins = so_far.begins in
    let longer = length-append workers (worker ∷ []) in
    record {
      begins = record {
        sound = sound;
        table = ap (λ (seat : BoardSeat). seat.table) rest ∙ begins.table;
        seen = ap (λ (seat : BoardSeat). seat.seen) rest ∙ begins.seen;
        mine = ap (λ (seat : BoardSeat). seat.mine) rest ∙ begins.mine;
        joined = ap (λ (seat : BoardSeat). seat.joined) rest ∙ begins.joined;
        parts = omega (arith, ap (λ (seat : BoardSeat). seat.parts) rest, begins.parts, longer);
      };
      fresh =
          All-append (IsFresh lock) workers (worker ∷ []) so_far.fresh
          (All-cons (IsFresh lock) worker [] (record {
            table = ap (λ (seat : BoardSeat). seat.table) new ∙ begins.table;
            parts = ap (λ (seat : BoardSeat). seat.parts) new;
            mine = ap (λ (seat : BoardSeat). seat.mine) new;
            joined = ap (λ (seat : BoardSeat). seat.joined) new;
          }) (All-nil (IsFresh lock)));
      few = omega (arith, longer);
    }

-- ---- workers that have ended

module _ {Back : Type 0} (of : Back → Job) (lock : TableId) where
  abbrev WorkedAt : BoardSeat → BoardSeat → Type 0
  WorkedAt before after =
      Worked (λ (seat : BoardSeat). seat.table ≡ lock) Follows (λ (seat : BoardSeat). owed seat.mine) (λ (seat : BoardSeat). last_call seat.mine) (λ (seat : BoardSeat). give_backs seat.mine) of before after

  abbrev HasWorkedAt : BoardSeat → Ended → BoardSeat → Type 0
  HasWorkedAt before ended after =
      HasWorked (λ (seat : BoardSeat). seat.table ≡ lock) Follows (λ (seat : BoardSeat). owed seat.mine) (λ (seat : BoardSeat). last_call seat.mine) (λ (seat : BoardSeat). give_backs seat.mine) of before ended after

  ended-so : (before after : BoardSeat) (ended : Ended) → IsFresh lock before → HasWorkedAt before ended after → WorkerEnded after.mine
  ended-so before after ends.Stopped fresh worked =
      stopped-ended after.mine (worked.stopped.0 refl) (worked.backs ∙ ap (λ (es : Entries). give_backs es + 0) fresh.mine)
  ended-so before after ends.NoMemory fresh worked =
      let back = worked.no_memory.0 refl in
      back-ended after.mine (of back.handed_back) back.last_is (worked.backs ∙ ap (λ (es : Entries). give_backs es + 1) fresh.mine)

  one-back : (before after : BoardSeat) → IsFresh lock before → WorkedAt before after → IsBack lock after
  one-back before after fresh w = record {
    table = w.worked.fits;
    parts = w.worked.follows.acted.parts ∙ fresh.parts;
    joined = w.worked.follows.acted.joined ∙ fresh.joined;
    ended = ended-so before after w.ended fresh w.worked;
  }

  pub all-back : (befores afters : List BoardSeat) → All (IsFresh lock) befores → AllZip WorkedAt befores afters → All (IsBack lock) afters
  all-back [] [] fresh zip = All-nil (IsBack lock)
  all-back [] (after ∷ afters) fresh zip = absurd zip
  all-back (before ∷ befores) [] fresh zip = absurd zip
  all-back (before ∷ befores) (after ∷ afters) fresh zip =
      All-cons (IsBack lock) after afters (one-back before after (All-head (IsFresh lock) before befores fresh) zip.0)
      (all-back befores afters (All-tail (IsFresh lock) before befores fresh) zip.1)

pub zip-length : (R : BoardSeat → BoardSeat → Type 0) (xs ys : List BoardSeat) → AllZip R xs ys → length ys ≡ length xs
zip-length R [] [] zip = refl
zip-length R [] (y ∷ ys) zip = absurd zip
zip-length R (x ∷ xs) [] zip = absurd zip
zip-length R (x ∷ xs) (y ∷ ys) zip = let n = zip-length R xs ys zip.1 in omega (arith, n)

pub each-fits : (lock : TableId) (seats : List BoardSeat) → All (IsFresh lock) seats → All (λ (seat : BoardSeat). seat.table ≡ lock) seats
each-fits lock [] fresh = All-nil (λ (seat : BoardSeat). seat.table ≡ lock)
each-fits lock (seat ∷ seats) fresh =
    All-cons (λ (x : BoardSeat). x.table ≡ lock) seat seats (All-head (IsFresh lock) seat seats fresh).table (each-fits lock seats (All-tail (IsFresh lock) seat seats fresh))

-- ---- seats that are joined

pub none-joined : (lock : TableId) (editor : BoardSeat) → IsEditor editor → HasJoinedAll lock editor 0 editor
none-joined lock editor sound = record {
  others = [];
  joins = record {
    sound = sound;
    seen = begins_self editor.seen;
    mine = refl;
    table = refl;
    parts = sym (add-zero editor.parts);
    joined = sym (append-nil editor.joined);
  };
  back = All-nil (IsBack lock);
  all = refl;
}

pub one-joined : (lock : TableId) (first editor next worker : BoardSeat) (count : ℕ) → HasJoinedAll lock first count editor → IsBack lock worker → next ≡ taken_in editor worker → Begins editor.seen next.seen → IsEditor next
    → HasJoinedAll lock first (count + 1) next
one-joined lock first editor next worker count so_far back both seen sound =
    let joins = so_far.joins in
    record {
      others = so_far.others ++ worker ∷ [];
      joins = record {
        sound = sound;
        seen = begins_trans joins.seen seen;
        mine = ap (λ (seat : BoardSeat). seat.mine) both ∙ joins.mine;
        table = ap (λ (seat : BoardSeat). seat.table) both ∙ joins.table;
        parts =
            ap (λ (seat : BoardSeat). seat.parts) both
            ∙ omega (arith, joins.parts, sum_by-append (λ (seat : BoardSeat). seat.parts) so_far.others (worker ∷ []), sum_by-cons (λ (seat : BoardSeat). seat.parts) worker []);
        joined =
            ap (λ (seat : BoardSeat). seat.joined) both
            ∙ (ap (λ (js : List (Joined BoardCall BoardReply)). js ++ brought worker) joins.joined
            ∙ (append_assoc first.joined (flat_map brought so_far.others) (brought worker)
            ∙ ap (λ (js : List (Joined BoardCall BoardReply)). first.joined ++ js)
            (ap (λ (js : List (Joined BoardCall BoardReply)). flat_map brought so_far.others ++ js) (sym (flat_map-cons brought worker [] ∙ append-nil (brought worker)))
            ∙ sym (flat_map-append brought so_far.others (worker ∷ [])))));
      };
      back = All-append (IsBack lock) so_far.others (worker ∷ []) so_far.back (All-cons (IsBack lock) worker [] back (All-nil (IsBack lock)));
      all = length-append so_far.others (worker ∷ []) ∙ ap (λ n. n + 1) so_far.all;
    }

pub all-last : {X : Type 0} (P : X → Type 0) (xs : List X) (y : X) → All P (xs ++ y ∷ []) → P y
all-last P [] y all = All-head P y [] all
all-last P (x ∷ xs) y all = all-last P xs y (All-tail P x (xs ++ y ∷ []) all)
