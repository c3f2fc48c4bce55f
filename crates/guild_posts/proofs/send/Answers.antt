use Rattle.std.proofs.Common.{◌≡◌, ◌<◌, ◌∙◌, length, sym, ap, arith}
use Rattle.guild_posts.specs.Posts.{pass_of_guild}
use Rattle.guild_posts.proofs.Sending.{edit_sent, many}
use Rattle.guild_posts.proofs.send.Goals as goal

pub returns : goal.returns
returns g c =
    let xs = c.args.passes.now.items in
    let posts = c.args.posts.now in
    let keys = c.args.index.now.keys in
    let by = c.pass_of_guild-by.result in
    let is : by ≡ pass_of_guild keys (length xs) c.args.guild = c.pass_of_guild-by.ensures.place ∙ ap (λ n. pass_of_guild keys n c.args.guild) (sym (many posts xs c.requires.passes)) in
    let lt : by < length xs = omega (arith, many posts xs c.requires.passes, c.pass_of_guild-by.ensures.inside) in
    edit_sent keys (c.args.guild, c.args.edit) xs by c.index_mut.result.now c.send_by.new.pass c.send_by.result
    is lt c.index_mut.ensures.value c.send_by.ensures.sent c.send_by.ensures.spent.0
