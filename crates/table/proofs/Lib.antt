mod Every
mod Labels
