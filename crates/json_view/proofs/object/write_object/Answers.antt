use Rattle.json_view.proofs.Objects.{text_from}
use Rattle.json_view.proofs.object.write_object.Goals as goal

pub returns-clause-text : goal.returns-clause-text
returns-clause-text c =
    text_from c.to_string.result _ c.args.fields.items c.requires.no_floats c.in_ok-object.ensures c.to_string.ensures.text
