use Rattle.std.proofs.Common.{◌≡◌, ◌<◌, length, arith}
use Rattle.serve_stage.proofs.Drafted.{all_may_send, all_may_work, as_many_scripts, as_many_workers}
use Rattle.serve_stage.proofs.Staged.{staged}
use Rattle.serve_stage.proofs.stage.begin.Goals as goal

pub add_filed_scripts-requires-clause-drafts : goal.add_filed_scripts-requires-clause-drafts
add_filed_scripts-requires-clause-drafts g c =
    let draft = c.args.draft in
    let port = c.requires.draft.0 in
    let bots = c.requires.draft.1 in
    let guilds = c.requires.draft.2 in
    let is = c.requires.draft.3 in
    let files = length c.args.lent.files.items in
    let doors = length c.args.lent.doors.items in
    let two : length draft.ground.posts ≡ 2 = is.two in
    let some : 0 < length draft.ground.posts = omega arith in (
      as_many_scripts draft.ground.posts port bots guilds files doors draft.parts is.parts_are,
      all_may_send draft.ground.posts port bots guilds files doors draft.parts is.parts_are some,
    )

pub add_housed_workers-requires-clause-drafts : goal.add_housed_workers-requires-clause-drafts
add_housed_workers-requires-clause-drafts g c =
    let draft = c.args.draft in
    let port = c.requires.draft.0 in
    let bots = c.requires.draft.1 in
    let guilds = c.requires.draft.2 in
    let is = c.requires.draft.3 in
    let files = length c.args.lent.files.items in
    let doors = length c.args.lent.doors.items in
    let two : length draft.ground.posts ≡ 2 = is.two in
    let some : 0 < length draft.ground.posts = omega arith in (
      as_many_workers draft.ground.posts port bots guilds files doors draft.parts is.parts_are,
      all_may_work draft.ground.posts port bots guilds files doors draft.parts is.parts_are some,
    )

pub returns : goal.returns
returns g c port bots guilds is =
    rw (c.into_parts-posts.ensures.1, c.into_parts-posts.ensures.2)
    (staged port bots guilds c.args.lent c.args.draft _ _ c.add_filed_scripts.new.parts c.add_housed_workers.new.parts is c.add_filed_scripts.ensures c.add_housed_workers.ensures)
