use Rattle.std.proofs.Common.{◌≡◌, ◌∙◌, ap, length, arith}
use Rattle.serde_json.specs.View.{view, items_view}
use Rattle.command_lines.specs.Values.{all_of, power_of}
use Rattle.command_lines.proofs.ItemLemmas.{powers_of-not_eight, powers_of-eight, eight_items}
use Rattle.command_lines.proofs.values.powers.powers_in.Goals as goal

pub returns-in_default : goal.returns-in_default
returns-in_default c = powers_of-not_eight (view c.args.value.now) c.in_ok-items_in.field-0.now c.in_ok-items_in.ensures (λ eight. omega (arith, eight, c.in_default.len_below))

pub returns-in_default-2 : goal.returns-in_default-2
returns-in_default-2 c = powers_of-not_eight (view c.args.value.now) c.in_ok-items_in.field-0.now c.in_ok-items_in.ensures (λ eight. omega (arith, eight, c.in_default.len_at_least))

pub returns : goal.returns
returns c =
    let eight : length c.in_ok-items_in.field-0.now ≡ 8 = omega (arith, c.in-len8.len_at_least, c.in-len8.len_below) in
    let items = eight_items c.in_ok-items_in.field-0.now _ _ _ _ _ _ _ _ eight c.at_63-item.is c.at_125-item.is c.at_250-item.is c.at_500-item.is c.at_1000-item.is c.at_2000-item.is c.at_4000-item.is c.at_8000-item.is in
    c.eight_powers.ensures
    ∙ ap (λ vs. all_of power_of (items_view vs)) items
    ∙ powers_of-eight (view c.args.value.now) c.in_ok-items_in.field-0.now c.in_ok-items_in.ensures eight
