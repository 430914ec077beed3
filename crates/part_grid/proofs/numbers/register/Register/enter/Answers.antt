use Rattle.std.proofs.Common.{◌≡◌, ◌<◌, ◌∷◌, ◌++◌, [], suc, length, get_or, set, arith, ap, ◌∙◌, length-append}
use Rattle.std.proofs.lemmas.List.{get_or_read, length-map}
use Rattle.part_grid.specs.declared.numbers.register.Entry.{Entry}
use Rattle.part_grid.specs.inner.Register.{lists_of, numbers_from}
use Rattle.part_grid.proofs.Registers.{entered-lists, entered-register}
use Rattle.part_grid.proofs.numbers.register.Register.enter.Goals as goal

pub returns : goal.returns
returns c =
    let newest = c.self.inside.newest.items in let entries = c.self.inside.entries.items in
    let h : c.args.cell < length newest = omega (arith, c.requires, ap length c.self.view_is, length-map newest (numbers_from (length entries) entries)) in
    let at = get_or_read newest c.args.cell c.index-before.result.now h c.index-before.ensures 0 in
    let e : Entry = record { number = c.args.number; before = c.index-before.result.now } in
    let items : c.push.new.self.items ≡ entries ++ e ∷ [] = c.in_ok-push.ensures.items in
    let count : c.len.result ≡ suc (length entries) = omega (arith, c.len.ensures, c.push.new.self.ok.0, ap length items, length-append entries (e ∷ [])) in
    ap (λ n. lists_of (set newest c.args.cell n) c.push.new.self.items) count
    ∙ ap (lists_of (set newest c.args.cell (suc (length entries)))) items
    ∙ entered-lists newest entries c.args.cell c.args.number c.index-before.result.now c.self.invariant h at
    ∙ ap (λ lists. set lists c.args.cell (c.args.number ∷ get_or lists c.args.cell [])) c.self.view_is

pub invariant_of-self-2 : goal.invariant_of-self-2
invariant_of-self-2 c =
    let newest = c.self.inside.newest.items in let entries = c.self.inside.entries.items in
    let h : c.args.cell < length newest = omega (arith, c.requires, ap length c.self.view_is, length-map newest (numbers_from (length entries) entries)) in
    let at = get_or_read newest c.args.cell c.index-before.result.now h c.index-before.ensures 0 in
    let e : Entry = record { number = c.args.number; before = c.index-before.result.now } in
    let items : c.push.new.self.items ≡ entries ++ e ∷ [] = c.in_ok-push.ensures.items in
    let count : c.len.result ≡ suc (length entries) = omega (arith, c.len.ensures, c.push.new.self.ok.0, ap length items, length-append entries (e ∷ [])) in
    rw (count, items) (entered-register newest entries c.args.cell c.args.number c.index-before.result.now c.self.invariant h at)
