use Rattle.std.proofs.Common.{◌≡◌, ◌∙◌, ℕ, ap, sym, subst, None}
use Rattle.std.specs.Prelude.{Option}
use Rattle.map_board.specs.Rows.{State, one_more, with_row}
use Rattle.map_board.specs.Jobs.{IsOutFor}
use Rattle.map_board.specs.Journal.{first_naming}
use Rattle.map_board.specs.Machine.{with_out, rows_after_return}
use Rattle.map_board.proofs.Landings.{seen, is-awaited}
use Rattle.map_board.proofs.state.Board.give_back.Goals as goal
use Rattle.map_board.proofs.state.Board.give_back.Goals.{After-saturating_add-self-inside, After-naming_since}

-- one job more came back
counted : (c : After-saturating_add-self-inside)
    → seen (record c.self.inside { counts = record c.self.inside.counts { back = c.saturating_add-self-inside.result } })
    ≡ record c.args.self.now { counts = record c.args.self.now.counts { back = one_more c.args.self.now.counts.back } }
counted c =
    ap (λ n. seen (record c.self.inside { counts = record c.self.inside.counts { back = n } })) c.saturating_add-self-inside.ensures
    ∙ ap (λ (s : State). record s { counts = record s.counts { back = one_more s.counts.back } }) c.self.view_is

-- it is the job's receiver that an edit since is looked for
named : (c : After-naming_since) → c.naming_since.result ≡ first_naming c.args.self.now.journal c.args.job.version c.args.job.receiver.name
named c = c.naming_since.ensures ∙ (λ i. first_naming (c.self.view_is i).journal (c.job.view_is i).version (c.name.ensures i))

pub free-requires-clause-out : goal.free-requires-clause-out
free-requires-clause-out c =
    let job = c.args.job in
    let s = c.args.self.now in
    subst (λ (s : State). IsOutFor s.rows job.version job.receiver) (sym c.self.view_is)
    (is-awaited s.journal s.rows job.version job.receiver c.requires.may (sym (named (goal.at.free-requires-clause-out c).After-naming_since) ∙ c.in-None.is))

pub returns-in-Some : goal.returns-in-Some
returns-in-Some c =
    let s = c.args.self.now in
    counted (goal.at.returns-in-Some c).After-saturating_add-self-inside
    ∙ ap (λ (o : Option ℕ). record s { rows = rows_after_return c.args.job o s.rows; counts = record s.counts { back = one_more s.counts.back } })
    (sym c.in-Some.is ∙ named (goal.at.returns-in-Some c).After-naming_since)

pub returns-in-None : goal.returns-in-None
returns-in-None c =
    let s = c.args.self.now in
    c.free.ensures
    ∙ (ap (λ (s : State). record s { rows = with_row c.args.job.receiver.name (with_out None) s.rows }) (counted (goal.at.returns-in-None c).After-saturating_add-self-inside)
    ∙ ap (λ (o : Option ℕ). record s { rows = rows_after_return c.args.job o s.rows; counts = record s.counts { back = one_more s.counts.back } })
    (sym c.in-None.is ∙ named (goal.at.returns-in-None c).After-naming_since))
