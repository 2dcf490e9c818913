use Rattle.std.proofs.Common.{refl, [], ◌∙◌, arith}
use Rattle.dep_query.specs.SiteTexts.{site_line, site_lines}
use Rattle.dep_query.proofs.Written.{one_more, all_written}
use Rattle.dep_query.proofs.site_lines.lines_of_sites.Goals as goal

pub loop-site-preserved : goal.loop-site-preserved
loop-site-preserved c =
    one_more site_line site_lines refl (λ site list. refl) c.loop-site.out.items c.write_site.new.out.items [] c.args.list.now c.loop-site.site-index _ (omega (arith, c.loop-site-test.true)) c.in_ok-write_site.ensures c.loop-site.invariant

pub returns : goal.returns
returns c =
    c.of.ensures ∙ all_written site_line site_lines refl (λ site list. refl) c.loop-site.out.items [] c.args.list.now c.loop-site.site-index (omega (arith, c.loop-site-test.false)) c.loop-site.invariant
