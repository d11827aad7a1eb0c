-- `decide::searchable` meets its contract: what stands for a question can be searched.
use Rattle.std.proofs.Common.{arith}
use Rattle.decide.specs.ReadableLaws.{readable}
use Rattle.decide.specs.NamedLaws.{named_lt, bit_defined, height_is, question_low}
use Rattle.decide.proofs.searchable.Goals as goal

pub question_height-requires : goal.question_height-requires
question_height-requires c = let (q, St) = c.requires in (named_lt _ q St, λ i t. St.small i (bit_defined _ q St i t))

pub invariant_of-result : goal.invariant_of-result
invariant_of-result c = let (q, St) = c.requires in record { readable = readable _ q St }

pub returns-clause-bounded : goal.returns-clause-bounded
returns-clause-bounded c =
    let (q, St) = c.requires in
    record {
      named = named_lt _ q St;
      height =
          rw c.question_height.ensures (omega (arith, question_low _ q St, height_is _ q St));
    }
