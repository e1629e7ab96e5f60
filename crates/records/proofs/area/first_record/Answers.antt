use Rattle.std.proofs.Common.{rules}
use borrow.Author.Tests.{tests}
use Rattle.records.proofs.Searching.{none_first, taken_first}
use Rattle.records.proofs.area.first_record.Goals as goal

pub returns-then-is_empty : goal.returns-then-is_empty
returns-then-is_empty c = none_first c.args.rest.now (search (rules, tests))

pub returns : goal.returns
returns c = taken_first c.args.rest.now (search (rules, tests)) c.min-end.ensures
