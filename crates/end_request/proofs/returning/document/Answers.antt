use Rattle.std.proofs.Common.{Some, sym, ap, ◌∙◌}
use Rattle.toml.specs.View.{table_view}
use Rattle.toml.proofs.Views.{view-Table}
use Rattle.client_registry.proofs.Documents.{document_read}
use Rattle.end_request.proofs.returning.document.Goals as goal

pub returns-in-Ok-clause-ok : goal.returns-in-Ok-clause-ok
returns-in-Ok-clause-ok c =
    document_read c.args.bytes.now (table_view c.in-Ok.table) c.in-Ok.ensures.ok.0 c.in-Ok.ensures.ok.1 ∙ ap Some (sym (view-Table c.in-Ok.table))
