-- What is printed of an end lies less than a hundredth beyond it.
use Rattle.std.proofs.Common.{◌<◌, ◌*◌, arith}
use Rattle.std.proofs.Math.Nat.{div-mul-le_self, lt-div-mul-add}
use Rattle.std.proofs.lemmas.Grind.{div_ceil_times}
use Rattle.fix_interval.specs.Units.{unit, unit-is}
use Rattle.map_text.specs.Rounding.{PrintedAround}

some_unit : 0 < unit
some_unit = rw unit-is (omega arith)

pub printed_around : PrintedAround
printed_around units =
    let high = div_ceil_times (100 * units) unit some_unit in record {
      low = div-mul-le_self (100 * units) unit;
      low_near = lt-div-mul-add some_unit;
      high = high.0;
      high_near = high.1;
    }
