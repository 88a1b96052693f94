use Rattle.serde_json.specs.View.{view, members_view}
use Rattle.nm_access_form.proofs.Each.{gives_all}
use Rattle.nm_access_form.proofs.entries.read_all.Goals as goal

pub returns : goal.returns
returns g c =
    gives_all (g.R.EntryReader.form c.args.reader.now) (view c.args.whole.now) (members_view c.args.members.now.entries) c.read_each.result
    c.requires c.read_each.ensures
