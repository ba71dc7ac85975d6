use Rattle.std.proofs.Common.{◌≡◌, ◌+◌, ◌-◌, length, arith, rules}
use Rattle.std.proofs.lemmas.List.{places}
use Rattle.field.proofs.Rows.{past_written}
use Rattle.field.proofs.cost.place_costs.Goals as goal

pub returns : goal.returns
returns c =
    let whole : length c.copy_from_slice.new.self ≡ c.args.top + 1 = search (rules, places) in
    record {
      size = search (rules, places);
      each = search (rules, places);
      past = λ v l. past_written c.copy_from_slice.new.self 256 ((c.args.top + 1) - 0) v (omega arith);
    }
