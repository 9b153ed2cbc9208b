use Rattle.std.proofs.Common.{◌∙◌, ap, ℕ, List, Bool}
use Rattle.ddcmp_session.specs.declared.course.Course.{Course}
use Rattle.ddcmp_session.specs.Course.{lost_more}
use Rattle.ddcmp_session.specs.Devices.{BuffersView}
use Rattle.ddcmp_session.specs.Session.{SessionView, lost_among, lost_at_end, lost_by_end}
use Rattle.ddcmp_session.proofs.LinesGo.{run-closed}
use Rattle.ddcmp_session.proofs.buffers.Buffers.close.Goals as goal

-- how the run has got on, with these bytes left of the input
closed : List ℕ → Bool → SessionView → Course
closed left is_at_end s =
    lost_more (lost_by_end s)
    (lost_more (lost_at_end left is_at_end s) (lost_more (lost_among left s) s.course))

pub returns-clause-closes : goal.returns-clause-closes
unfolding closed
returns-clause-closes c =
    run-closed c.args.self.now c.close-has_room.result c.args.session.now.state
    c.close-has_room.new.self.state
    (record {
      link = c.close-has_room.ensures.link;
      wrote = c.close-has_room.ensures.wrote;
      form = c.close-has_room.ensures.form;
      course =
          c.close-has_room.ensures.course
          ∙ ap (λ xs. closed xs c.self.inside.input_is_over c.args.session.now.state) c.rest.ensures
          ∙ ap (λ (b : BuffersView). closed b.input b.is_over c.args.session.now.state)
          c.self.view_is;
      stays = c.close-has_room.ensures.stays;
    })
