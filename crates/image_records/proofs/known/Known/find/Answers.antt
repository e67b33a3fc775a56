use Rattle.std.proofs.Common.{ap, ◌∙◌}
use Rattle.image_records.specs.Names.{found_object, found_code}
use Rattle.image_records.proofs.Keys.{object_found, code_found}
use Rattle.image_records.proofs.known.Known.find.Goals as goal

pub returns-clause-object : goal.returns-clause-object
returns-clause-object c = ap found_object (c.copied.ensures ∙ c.get.ensures.value) ∙ object_found c.args.self.now.objects.entries c.args.key

pub returns-clause-code : goal.returns-clause-code
returns-clause-code c = ap found_code (c.copied.ensures ∙ c.get.ensures.value) ∙ code_found c.args.self.now.objects.entries c.args.key
