-- The field, the picture and the flows of a claim, and what its rules come to. Assumes nothing: these are definitions.
use Rattle.theory.specs.Pictures.{Picture}
use Rattle.theory.specs.Nets.{Flows}
use Rattle.theory.specs.Fields.{Field}
use Rattle.field.specs.Given.{picture_in, flows_in}
use Rattle.field.specs.Viewed.{field_of}
use Rattle.field.specs.Firsts.{Tried, first}
use Rattle.word.specs.declared.broken.Broken.{Broken}
use Rattle.sheet.specs.declared.claim.Claim.{Claim}
use Rattle.sheet.specs.Words.{side_rule, place_rule, rules}

abbrev pub claim_field : Claim → Field
claim_field c = field_of c.field

abbrev pub claim_picture : Claim → Picture
claim_picture c = picture_in c.picture.now

abbrev pub claim_flows : Claim → Flows
claim_flows c = flows_in c.flows.now

-- the rules of all its sides, those of all its places, and the ones after the others
abbrev pub sides_tried : Claim → Tried Broken
sides_tried c = first (side_rule (claim_field c) (claim_picture c) (claim_flows c)) (claim_field c).sides

abbrev pub places_tried : Claim → Tried Broken
places_tried c = first (place_rule (claim_field c) (claim_picture c) (claim_flows c)) (claim_field c).places

abbrev pub claim_tried : Claim → Tried Broken
claim_tried c = rules (claim_field c) (claim_picture c) (claim_flows c)
