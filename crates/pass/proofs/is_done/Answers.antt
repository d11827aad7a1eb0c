-- `pass::is_done` meets its contract, by cases on the search.
use Rattle.std.proofs.Common.{sym, ◌∙◌}
use Rattle.entries.specs.BitLaws.{all_set}
use Rattle.steps.proofs.SearchLaws.{not_unmet}
use Rattle.pass.proofs.is_done.Goals as goal

pub returns-in-Unmet : goal.returns-in-Unmet
returns-in-Unmet c e =
    let F = c.first_bits in
    record {
      plain = sym c.digit.ensures ∙ c.if-not-digit.false;
      full = all_set c.args.met c.args.count F.result c.ranges.met.fits c.requires F.ensures.1
          c.if-first_bits-ne0.false;
      unmet = λ q. sym c.digit-in-Unmet.ensures ∙ e;
    }

pub returns-in-First : goal.returns-in-First
returns-in-First c e =
    let F = c.first_bits in
    record {
      plain = sym c.digit.ensures ∙ c.if-not-digit.false;
      full = all_set c.args.met c.args.count F.result c.ranges.met.fits c.requires F.ensures.1
          c.if-first_bits-ne0.false;
      unmet = λ q. absurd (not_unmet c.args.search c.in-First.is q);
    }
