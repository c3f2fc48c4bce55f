-- Requests by sender.
use Rattle.std.specs.Prelude.{ℕ, ◌==◌, List}
use Rattle.std.specs.List.{filter}
use Rattle.edit_post.specs.declared.request.Request.{Request}

-- the requests of one sender, in order
abbrev pub requests_of : ℕ → List Request → List Request
requests_of sender requests = filter (λ (r : Request). r.sender == sender) requests
