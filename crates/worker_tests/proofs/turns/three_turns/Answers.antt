use Rattle.std.proofs.Common.{◌≡◌, ℕ, ◌+◌, ◌%◌, ◌^◌, ◌<◌, List, [], ◌∷◌, ◌++◌, length, sym, ap, ◌∙◌, arith, add-zero, length-append}
use Rattle.std.specs.Prelude.{sum_by}
use Rattle.turn_lock.specs.declared.entry.Entry.{Entry}
use Rattle.turn_lock.specs.declared.entry.Joined.{Joined}
use Rattle.turn_lock.specs.History.{Leads}
use Rattle.worker_tests.proofs.turns.three_turns.Goals as goal

-- after a history the counter has counted its entries
counts : {C : Type 0} (from to : ℕ) (es : List (Entry C ℕ)) → from + length es < 2 ^ 64 → Leads (λ before call reply after. (reply ≡ before) × (after ≡ (before + 1) % 2 ^ 64)) from es to → to ≡ from + length es
counts from to [] small leads = sym leads ∙ sym (add-zero from)
counts from to (e ∷ es) small leads =
    let next : leads.0 ≡ (from + 1) % 2 ^ 64 = leads.1.1 in
    let rest = counts leads.0 to es (omega arith) leads.2 in
    omega arith

pub returns : goal.returns
returns g c =
    let first = c.turn-first.ensures.called in
    let second = c.turn-second.ensures.called in
    let third = c.turn_by-third.ensures.called in
    let start = c.in_ok-lock.ensures.seat in
    let split = c.split-two.ensures in
    let both = c.join.ensures.both in
    let joined = third.joined ∙ (first.joined ∙ (ap (λ s. s.joined) split.old ∙ ap (λ s. s.joined) start)) in
    let joined_second = second.joined ∙ ap (λ s. s.joined) split.new in
    let mine_second = ap length second.mine ∙ length-append c.split-two.result.mine _ in
    let mine_second_before = ap (λ s. length s.mine) split.new in
    let mine_before = ap (λ s. length s.mine) split.old ∙ ap (λ s. length s.mine) start in
    let mine_first = ap length first.mine ∙ length-append c.split-two.new.seat.mine _ in
    let mine_third = ap length third.mine ∙ length-append c.turn-first.new.seat.mine _ in
    let mine = ap (λ s. length s.mine) both in
    let others = ap (λ s. sum_by (λ j. length j.mine) s.joined) both
    ∙ ap (λ (l : List (Joined _ ℕ) × List (Joined _ ℕ)). sum_by (λ j. length j.mine) (l.0 ++ record { number = c.turn-second.new.seat.number; mine = c.turn-second.new.seat.mine } ∷ l.1)) (λ i. (joined i, joined_second i)) in
    let entries = c.close-counter.ensures.entries in
    let all : length c.join.new.seat.seen ≡ 3 = omega arith in
    let counted : c.close-counter.result.count ≡ 0 + length c.join.new.seat.seen = counts 0 _ c.join.new.seat.seen (omega arith) c.close-counter.ensures.run.leads in
    omega arith
