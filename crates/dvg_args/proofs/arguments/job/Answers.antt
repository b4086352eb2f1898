use Rattle.dvg_args.proofs.Jobs.{entered_name}
use Rattle.dvg_args.proofs.Refused.{first_kind}
use Rattle.dvg_args.proofs.arguments.job.Goals as goal

pub entered-requires : goal.entered-requires
entered-requires c = record {
  some = c.in-Ok.ensures.some;
  name = entered_name _ _ c.in-Ok.ensures.kinds c.in-Ok.ensures.rows;
}

pub returns-in-Err-clause-kinds : goal.returns-in-Err-clause-kinds
returns-in-Err-clause-kinds c = first_kind _ _ c.in-Err.error c.in-Err.ensures.kinds
