use Rattle.std.proofs.Common.{length, rules}
use Rattle.field.proofs.Rows.{row_within}
use Rattle.field.proofs.view.FieldView.costs_at.Goals as goal

pub place_costs-requires : goal.place_costs-requires
place_costs-requires c =
    record {
      low = search rules;
      within = row_within c.args.place c.args.self.now.places c.args.self.now.top (length c.args.self.now.costs.now) (search rules) c.args.self.now.taken.laid.each;
    }
