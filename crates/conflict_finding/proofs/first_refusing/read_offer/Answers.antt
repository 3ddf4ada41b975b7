-- What all ask was read, or the first line is that of the format, or where all take it that of the
-- colour space.
use Rattle.conflict_finding.proofs.FirstLines.{colour_lacking, format_lacking}
use Rattle.conflict_finding.proofs.first_refusing.read_offer.Goals as goal

pub returns-in-Some-first_without_format-clause-reading : goal.returns-in-Some-first_without_format-clause-reading
returns-in-Some-first_without_format-clause-reading c = (
  c.in-Some-first_without_format.ensures.there,
  c.in-Some-first_without_format.ensures.line,
  format_lacking c.args.tree.now.nodes c.args.nodes.now c.in-Some-first_without_format.node c.in-Some-first_without_format.ensures.there c.args.offer.now c.in-Some-first_without_format.ensures.line,
)

pub returns-in-Some-first_without_colour-clause-reading : goal.returns-in-Some-first_without_colour-clause-reading
returns-in-Some-first_without_colour-clause-reading c = (
  c.in-Some-first_without_colour.ensures.there,
  c.in-Some-first_without_colour.ensures.line,
  colour_lacking c.args.tree.now.nodes c.args.nodes.now c.in-Some-first_without_colour.node c.in-Some-first_without_colour.ensures.there c.args.offer.now
      c.in_default-first_without_format.ensures.none c.in-Some-first_without_colour.ensures.line,
)
